-- Sweeping from one place after the other.
use Rattle.std.proofs.Common.{◌≡◌, ℕ, zero, suc, ◌+◌, ◌<◌, Bool, T, List, [], ◌∷◌, ◌++◌, get_or, Contains, sym, refl, ◌∙◌, subst, inl, inr, arith}
use Rattle.std.proofs.lemmas.List.Elements.{Contains-append_cases}
use Rattle.spanning.specs.Joined.{Graph}
use Rattle.spanning.proofs.Subsets.{same_or}
use Rattle.forest.specs.declared.rooted.Rooted.{Rooted}
use Rattle.forest.specs.Rooted.{count_of, point_at, Placed, Grown, Swept}
use Rattle.forest.specs.LinkEnds.{end_of, other}
use Rattle.forest.specs.declared.rooted.links_by_end.ends.End.{End}
use Rattle.forest.specs.declared.rooted.links_by_end.ends.End.TheVariants.{First}

pub grown_refl : (r : Rooted) → Grown r r
grown_refl r = record { more = omega arith; kept = λ p l. refl }

pub grown_then : (r s t : Rooted) → Grown r s → Grown s t → Grown r t
grown_then r s t a b = record {
  more = let x = a.more in let y = b.more in omega arith;
  kept = λ p l. let x = a.more in b.kept p (omega arith) ∙ a.kept p l;
}

pub still_placed : (r s : Rooted) (x : ℕ) → Grown r s → Placed r x → Placed s x
still_placed r s x a h = (h.0, (let m = a.more in let l = h.1 in omega arith), a.kept h.0 h.1 ∙ h.2)

-- one more end swept from a place
pub ends_more : (g : Graph) (X : ℕ → Bool) (ends : List End) (r s : Rooted) (at i : ℕ) → at < count_of r → Grown r s
    → ((j e : ℕ) → j < i → T (X e) → end_of g (get_or ends j First) e ≡ point_at r at → Placed r (end_of g (other (get_or ends j First)) e))
    → ((e : ℕ) → T (X e) → end_of g (get_or ends i First) e ≡ point_at r at → Placed s (end_of g (other (get_or ends i First)) e))
    → (j e : ℕ) → j < i + 1 → T (X e) → end_of g (get_or ends j First) e ≡ point_at s at → Placed s (end_of g (other (get_or ends j First)) e)
ends_more g X ends r s at i la grown old new j e l own near = elim (same_or j i) [
  | inl q ↦ subst (λ k. end_of g (get_or ends k First) e ≡ point_at r at → Placed s (end_of g (other (get_or ends k First)) e)) (sym q) (new e own) was
  | inr apart ↦ still_placed r s (end_of g (other (get_or ends j First)) e) grown (old j e (omega arith) own was)
]
  where
    was : end_of g (get_or ends j First) e ≡ point_at r at
    was = near ∙ grown.kept at la

-- one more place swept
pub swept_more : (g : Graph) (X : ℕ → Bool) (r s : Rooted) (at : ℕ) → at < count_of r → Grown r s → ((p : ℕ) → p < at → Swept g X r p) → Swept g X s at → (p : ℕ) → p < at + 1 → Swept g X s p
swept_more g X r s at la grown old new p l = elim (same_or p at) [
  | inl q ↦ subst (λ k. Swept g X s k) (sym q) new
  | inr apart ↦ λ end e t near. still_placed r s (end_of g (other end) e) grown (old p (omega arith) end e t (near ∙ grown.kept p (omega arith)))
]

-- one more link swept
module _ (g : Graph) (end : End) (r s : Rooted) (grown : Grown r s) (done : List ℕ) (n : ℕ) where
  sole : (k : ℕ) → Contains (n ∷ []) k → k ≡ n
  sole k c = at c.0 c.1 c.2 where
    at : (i : ℕ) → i < 1 → get_or (n ∷ []) i k ≡ k → k ≡ n
    at zero l e = sym e
    at (suc i) l e = absurd (omega arith)

  pub reached_more : ((e : ℕ) → Contains done e → Placed r (end_of g end e)) → Placed s (end_of g end n) → (e : ℕ) → Contains (done ++ n ∷ []) e → Placed s (end_of g end e)
  reached_more old new e c = elim (Contains-append_cases done (n ∷ []) e c) [
    | inl before ↦ still_placed r s (end_of g end e) grown (old e before)
    | inr last ↦ subst (λ k. Placed s (end_of g end k)) (sym (sole e last)) new
  ]
