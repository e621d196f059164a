-- Two walks up, from two points until they meet.
use Rattle.std.proofs.Common.{◌≡◌, ℕ, suc, ◌<◌, ◌≤◌, Bool, T, ◌⊎◌, Some, None, Option, sym, refl, ap, ◌∙◌, subst, inl, inr, arith}
use Rattle.forest.specs.declared.merges.Hang.{Hang}
use Rattle.forest.specs.Merges.{root_after}
use Rattle.forest.proofs.MergeRoots.{Stands, hangs_once, own_root, root_of_parent}
use Rattle.spanning.specs.Joined.{Graph, Joined}
use Rattle.spanning.specs.Joined.Joined.{same, forth, back}
use Rattle.spanning.proofs.Subsets.{same_or}

-- From x and y the points a and b are reached, and no join before number `last` hung either: after it they have one root exactly if
-- x and y have. With that many joins x and y have two.
pub record Walked (hang : ℕ → Option Hang) (n x y a b last : ℕ) : Type 0 where
  pub one_root : (t : ℕ) → last < t → root_after hang t a ≡ root_after hang t b → root_after hang t x ≡ root_after hang t y
  pub roots_met : (t : ℕ) → last < t → root_after hang t x ≡ root_after hang t y → root_after hang t a ≡ root_after hang t b
  pub later_a : Stands hang last a
  pub later_b : Stands hang last b
  pub apart : root_after hang last x ≡ root_after hang last y → ⊥
  pub low : last ≤ n

-- the same, by the number of the last join passed, if one was
abbrev pub Climbed : (ℕ → Option Hang) → ℕ → ℕ → ℕ → ℕ → ℕ → Option ℕ → Type 0
Climbed hang n x y a b None = ((a ≡ x) × (b ≡ y)) ⊎ ((a ≡ y) × (b ≡ x))
Climbed hang n x y a b (Some last) = Walked hang n x y a b last × (last < n)

module _ (hang : ℕ → Option Hang) (n : ℕ) where
  -- before the first join passed
  start : (x y a b : ℕ) → (a ≡ x) × (b ≡ y) → (a ≡ b → ⊥) → Walked hang n x y a b 0
  start x y a b p other = record {
    one_root = λ t l q. ap (root_after hang t) (sym p.0) ∙ q ∙ ap (root_after hang t) p.1;
    roots_met = λ t l q. ap (root_after hang t) p.0 ∙ q ∙ ap (root_after hang t) (sym p.1);
    later_a = λ h is. omega arith;
    later_b = λ h is. omega arith;
    apart = λ e. other (p.0 ∙ e ∙ sym p.1);
    low = omega arith;
  }

  turned : (x y a b last : ℕ) → Walked hang n x y a b last → Walked hang n x y b a last
  turned x y a b last w = record {
    one_root = λ t l q. w.one_root t l (sym q);
    roots_met = λ t l q. sym (w.roots_met t l q);
    later_a = w.later_b;
    later_b = w.later_a;
    apart = w.apart;
    low = w.low;
  }

  -- while they are apart
  walked : (x y a b : ℕ) (last : Option ℕ) → Climbed hang n x y a b last → (a ≡ b → ⊥) → (t : ℕ) × Walked hang n x y a b t
  walked x y a b None (inl p) other = (0, start x y a b p other)
  walked x y a b None (inr p) other = (0, turned x y b a 0 (start x y b a (p.1, p.0) (λ q. other (sym q))))
  walked x y a b (Some last) w other = (last, w.0)

  -- in either order
  pub walked_in_order : (x y a b low high : ℕ) (last : Option ℕ) → Climbed hang n x y a b last → (a ≡ b → ⊥) → ((low ≡ a) × (high ≡ b)) ⊎ ((low ≡ b) × (high ≡ a)) → (t : ℕ) × Walked hang n x y low high t
  walked_in_order x y a b low high last c other (inl p) = let w = walked x y a b last c other in (w.0, subst (λ v. Walked hang n x y v high w.0) (sym p.0) (subst (λ v. Walked hang n x y a v w.0) (sym p.1) w.1))
  walked_in_order x y a b low high last c other (inr p) =
      let w = walked x y a b last c other in
      (w.0, subst (λ v. Walked hang n x y v high w.0) (sym p.0) (subst (λ v. Walked hang n x y b v w.0) (sym p.1) (turned x y a b w.0 w.1)))

  -- while they are apart, the points reached have two roots until one of them is hung
  still_apart : (x y a b last t : ℕ) → Walked hang n x y a b last → (a ≡ b → ⊥) → last ≤ t → Stands hang t a → Stands hang t b → root_after hang t x ≡ root_after hang t y → ⊥
  still_apart x y a b last t w other l la lb q = elim (same_or last t) [
    | inl e ↦ w.apart (subst (λ s. root_after hang s x ≡ root_after hang s y) (sym e) q)
    | inr more ↦ other (sym (own_root hang t a la) ∙ w.roots_met t (omega arith) q ∙ own_root hang t b lb)
  ]

  -- the one that was hung first goes up
  pub step : (early : (x : ℕ) (h : Hang) → hang x ≡ Some h → h.join < n) → (rises : (x : ℕ) (h above : Hang) → hang x ≡ Some h → hang h.parent ≡ Some above → h.join < above.join)
      → (x y a b last : ℕ) (h : Hang) → Walked hang n x y a b last → (a ≡ b → ⊥) → hang a ≡ Some h → Stands hang h.join b → Climbed hang n x y h.parent b (Some h.join)
  step early rises x y a b last h w other is first =
      let past = w.later_a h is in
      let up : Stands hang (suc h.join) h.parent = λ above at. omega (arith, rises a h above is at) in
      let stands : Stands hang h.join a = λ g at. omega (arith, hangs_once (hang a) h g is at) in (
        record {
          one_root = λ t l q. w.one_root t (omega arith) (sym (root_of_parent hang t a h is up l) ∙ q);
          roots_met = λ t l q. root_of_parent hang t a h is up l ∙ w.roots_met t (omega arith) q;
          later_a = λ above at. omega (arith, rises a h above is at);
          later_b = first;
          apart = still_apart x y a b last h.join w other past stands first;
          low = omega (arith, early a h is);
        },
        early a h is,
      )

  -- two roots: never joined
  pub never : (x y a b last : ℕ) → Walked hang n x y a b last → (a ≡ b → ⊥) → ((h : Hang) → hang a ≡ Some h → ⊥) → ((h : Hang) → hang b ≡ Some h → ⊥) → root_after hang n x ≡ root_after hang n y → ⊥
  never x y a b last w other root_a root_b = still_apart x y a b last n w other w.low (λ h is. absurd (root_a h is)) (λ h is. absurd (root_b h is))

  -- they meet: joined by the last join passed
  pub meets : (x y a b last : ℕ) → Walked hang n x y a b last → a ≡ b → root_after hang (suc last) x ≡ root_after hang (suc last) y
  meets x y a b last w q = w.one_root (suc last) (omega arith) (ap (root_after hang (suc last)) q)

-- different points that links join are ends of links
pub ends_of : (g : Graph) (S : ℕ → Bool) → ((k : ℕ) → T (S k) → (g.first k < 1024) × (g.second k < 1024)) → (x y : ℕ) → Joined g S x y → (x ≡ y) ⊎ ((x < 1024) × (y < 1024))
ends_of g S ends x y (same w) = inl refl
ends_of g S ends x y (forth w e t d) = elim (ends_of g S ends x (g.first e) d) [
  | inl q ↦ inr (subst (λ z. z < 1024) (sym q) (ends e t).0, (ends e t).1)
  | inr within ↦ inr (within.0, (ends e t).1)
]
ends_of g S ends x y (back w e t d) = elim (ends_of g S ends x (g.second e) d) [
  | inl q ↦ inr (subst (λ z. z < 1024) (sym q) (ends e t).1, (ends e t).0)
  | inr within ↦ inr (within.0, (ends e t).0)
]
