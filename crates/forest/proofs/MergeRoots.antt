-- Roots after so many joins, and what one more join does to them.
use Rattle.std.proofs.Common.{◌≡◌, ℕ, zero, suc, ◌-◌, ◌<◌, ◌≤◌, cond, Some, None, Option, sym, refl, ap, ◌∙◌, inl, inr, arith}
use Rattle.std.proofs.lemmas.Bool.{eq-eqb, ne_eqb}
use Rattle.forest.specs.declared.merges.Hang.{Hang}
use Rattle.forest.specs.Merges.{root_at, root_after}
use Rattle.spanning.proofs.Subsets.{same_or}

-- a root hangs nowhere, and no point hangs in two places
pub hangs_nowhere : (o : Option Hang) (h : Hang) → o ≡ None → o ≡ Some h → ⊥
hangs_nowhere o h root is = cc

pub hangs_once : (o : Option Hang) (h g : Hang) → o ≡ Some h → o ≡ Some g → g.join ≡ h.join
hangs_once o h g is at = ap (λ k. k.join) (let same : g ≡ h = cc in same)

-- a root that this join did not hang is a root still
root_stays : (o : Option Hang) (t r : ℕ) → ((h : Hang) → o ≡ Some h → h.join ≡ t → ⊥) → root_at o t r ≡ r
root_stays None t r other = refl
root_stays (Some h) t r other = ap (λ b. cond b h.parent r) (ne_eqb h.join t (other h refl))

-- and one that it hung is below its parent
root_hung : (o : Option Hang) (h : Hang) (t r : ℕ) → o ≡ Some h → h.join ≡ t → root_at o t r ≡ h.parent
root_hung o h t r is e = ap (λ v. root_at v t r) is ∙ ap (λ b. cond b h.parent r) (eq-eqb h.join t e)

module _ (hang : ℕ → Option Hang) where
  -- none of the first t joins hung x
  abbrev pub Stands : ℕ → ℕ → Type 0
  Stands t x = (h : Hang) → hang x ≡ Some h → t ≤ h.join

  -- a point that is not hung yet is its own root
  pub own_root : (t x : ℕ) → Stands t x → root_after hang t x ≡ x
  own_root zero x late = refl
  own_root (suc t) x late = ap (λ r. root_at (hang r) t r) (own_root t x (λ h is. omega (arith, late h is))) ∙ root_stays (hang x) t x (λ h is e. omega (arith, late h is))

  -- once it is hung, its root is its parent's
  pub root_of_parent : (t x : ℕ) (h : Hang) → hang x ≡ Some h → Stands (suc h.join) h.parent → h.join < t → root_after hang t h.parent ≡ root_after hang t x
  root_of_parent zero x h is rises l = absurd (omega arith)
  root_of_parent (suc t) x h is rises l = elim (same_or h.join t) [
    | inl q ↦
        let stood : Stands t x = λ g at. omega (arith, hangs_once (hang x) h g is at) in
        own_root (suc t) h.parent (λ g at. omega (arith, rises g at)) ∙ sym (root_hung (hang x) h t x is q) ∙ ap (λ r. root_at (hang r) t r) (sym (own_root t x stood))
    | inr other ↦ ap (λ r. root_at (hang r) t r) (root_of_parent t x h is rises (omega arith))
  ]

-- the join number n hangs the root a from b
module _ (hang hang' : ℕ → Option Hang) (n a b : ℕ) (root : hang a ≡ None) (now : hang' a ≡ Some (record { parent = b; join = n })) (others : (x : ℕ) → (x ≡ a → ⊥) → hang' x ≡ hang x) where
  other_same : (t r : ℕ) → (r ≡ a → ⊥) → root_at (hang' r) t r ≡ root_at (hang r) t r
  other_same t r apart = ap (λ o. root_at o t r) (others r apart)

  earlier_at : (t r : ℕ) → t < n → root_at (hang' r) t r ≡ root_at (hang r) t r
  earlier_at t r l = elim (same_or r a) [
    | inl q ↦
        ap (λ x. root_at (hang' x) t x) q
        ∙ root_stays (hang' a) t a (λ h is e. omega (arith, hangs_once (hang' a) (record { parent = b; join = n }) h now is))
        ∙ sym (root_stays (hang a) t a (λ h is e. absurd (hangs_nowhere (hang a) h root is)))
        ∙ ap (λ x. root_at (hang x) t x) (sym q)
    | inr apart ↦ other_same t r apart
  ]

  -- earlier roots stay
  pub earlier_same : (t x : ℕ) → t ≤ n → root_after hang' t x ≡ root_after hang t x
  earlier_same zero x l = refl
  earlier_same (suc t) x l = ap (λ r. root_at (hang' r) t r) (earlier_same t x (omega arith)) ∙ earlier_at t (root_after hang t x) (omega arith)

  -- what had the root a has the root b
  pub root_moved : (x : ℕ) → root_after hang n x ≡ a → root_after hang' (suc n) x ≡ b
  root_moved x e = ap (λ r. root_at (hang' r) n r) (earlier_same n x (omega arith) ∙ e) ∙ root_hung (hang' a) (record { parent = b; join = n }) n a now refl

  -- and the others theirs
  pub root_kept : (x : ℕ) → ((h : Hang) → hang (root_after hang n x) ≡ Some h → h.join < n) → (root_after hang n x ≡ a → ⊥) → root_after hang' (suc n) x ≡ root_after hang n x
  root_kept x early apart =
      let r = root_after hang n x in
      ap (λ y. root_at (hang' y) n y) (earlier_same n x (omega arith)) ∙ other_same n r apart ∙ root_stays (hang r) n r (λ h is e. omega (arith, early h is))

-- how many joins from a point's own on, which is how far it may be below its root
abbrev pub to_go : ℕ → Option Hang → ℕ
to_go n None = 0
to_go n (Some h) = n - h.join

-- on the way up they are fewer
pub goes_up : (n : ℕ) (h : Hang) (o : Option Hang) → h.join < n → ((above : Hang) → o ≡ Some above → h.join < above.join) → to_go n o < n - h.join
goes_up n h None early rises = omega arith
goes_up n h (Some above) early rises = omega (arith, rises above refl)
