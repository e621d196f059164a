-- Lists with one more written.
use Rattle.std.proofs.Common.{◌≡◌, ℕ, zero, suc, ◌+◌, ◌<◌, ◌≤◌, List, length, get_or, set, replicate, sym, refl, ap, ◌∙◌, subst, inl, inr, arith}
use Rattle.std.proofs.lemmas.List.{get_or-set_same, get_or-set_other}
use Rattle.spanning.proofs.Subsets.{same_or}

pub all_same : {X : Type 0} (n k : ℕ) (x : X) → get_or (replicate n x) k x ≡ x
all_same zero k x = refl
all_same (suc n) zero x = refl
all_same (suc n) (suc k) x = all_same n k x

module _ {X : Type 0} (xs : List X) (i : ℕ) (v d : X) (within : i < length xs) where
  -- what was written, and what was not
  pub written : (k : ℕ) → k ≡ i → get_or (set xs i v) k d ≡ v
  written k q = ap (λ j. get_or (set xs i v) j d) q ∙ get_or-set_same xs i v d within

  pub unwritten : (k : ℕ) → (k ≡ i → ⊥) → get_or (set xs i v) k d ≡ get_or xs k d
  unwritten k n = get_or-set_other xs i k v d n

  -- what holds past a place still holds past the next
  pub still_past : (P : X → Type 0) → ((k : ℕ) → i ≤ k → P (get_or xs k d)) → (k : ℕ) → i + 1 ≤ k → P (get_or (set xs i v) k d)
  still_past P all k l = subst P (sym (unwritten k (λ q. omega arith))) (all k (omega arith))

  -- what holds up to a place holds up to the next
  pub up_to_next : (P : ℕ → X → Type 0) → ((k : ℕ) → k < i → P k (get_or xs k d)) → P i v → (k : ℕ) → k < i + 1 → P k (get_or (set xs i v) k d)
  up_to_next P all new k l = elim (same_or k i) [
    | inl q ↦ subst (P k) (sym (written k q)) (subst (λ j. P j v) (sym q) new)
    | inr n ↦ subst (P k) (sym (unwritten k n)) (all k (omega arith))
  ]
