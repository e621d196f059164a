-- One more place in a list of places.
use Rattle.std.proofs.Common.{◌≡◌, ℕ, zero, suc, ◌+◌, ◌-◌, ◌<◌, ◌≤◌, List, [], ◌∷◌, ◌++◌, length, get_or, set, replicate, Some, None, Option, IsSome, sym, refl, ap, ◌∙◌, subst, inl, inr, arith, length-append}
use native.Mathlib.Decide.{dec_lt}
use Rattle.std.proofs.Math.ListN.{get_or-append}
use Rattle.std.proofs.lemmas.List.{get_or-set_same, get_or-set_other, get_or_push, get_or_past}
use Rattle.std.proofs.lemmas.Option.{same_Some}
use Rattle.spanning.proofs.Subsets.{same_or}
use Rattle.forest.specs.declared.rooted.Place.{Place}
use Rattle.forest.specs.Places.{root_place, parent_of, link_of, point_in, above_in, parent_in, link_in, Agree}

module _ (order : List Place) (y : Place) where
  abbrev more : List Place
  more = order ++ y ∷ []

  pub length_more : length (order ++ y ∷ []) ≡ length order + 1
  length_more = length-append order (y ∷ [])

  pub at_old : (p : ℕ) → p < length order → get_or (order ++ y ∷ []) p root_place ≡ get_or order p root_place
  at_old p l = get_or-append order (y ∷ []) root_place p l

  pub at_last : (p : ℕ) → p ≡ length order → get_or (order ++ y ∷ []) p root_place ≡ y
  at_last p q = get_or_push order y root_place p (sym q)

  at_past : (p : ℕ) → length order < p → get_or (order ++ y ∷ []) p root_place ≡ get_or order p root_place
  at_past p l = get_or_past (order ++ y ∷ []) p root_place (let n = length_more in omega arith) ∙ sym (get_or_past order p root_place (omega arith))

  -- what holds of each place of a list, and of one more, holds of each of the longer list
  pub each_more : (P : ℕ → Place → Type 0) → ((p : ℕ) → P p (get_or order p root_place)) → P (length order) y → (p : ℕ) → P p (get_or (order ++ y ∷ []) p root_place)
  each_more P old new p = elim (same_or p (length order)) [
    | inl q ↦ subst (λ k. P k (get_or (order ++ y ∷ []) k root_place)) (sym q) (subst (λ z. P (length order) z) (sym (at_last (length order) refl)) new)
    | inr apart ↦ elim (dec_lt p (length order)) [
      | yes l ↦ subst (P p) (sym (at_old p l)) (old p)
      | no l ↦ subst (P p) (sym (at_past p (omega arith))) (old p)
    ]
  ]

  -- the point of the new place gets its number
  module _ (places : List (Option ℕ)) (agree : Agree places order) (within : y.point < length places) (new : get_or places y.point None ≡ None) where
    abbrev places' : List (Option ℕ)
    places' = set places y.point (Some (length order))

    here : get_or places' y.point None ≡ Some (length order)
    here = get_or-set_same places y.point (Some (length order)) None within

    other : (x : ℕ) → (x ≡ y.point → ⊥) → get_or places' x None ≡ get_or places x None
    other x apart = get_or-set_other places y.point x (Some (length order)) None apart

    forth : (x p : ℕ) → get_or places' x None ≡ Some p → (p < length more) × (point_in more p ≡ x)
    forth x p e = let n = length_more in elim (same_or x y.point) [
      | inl q ↦
          let s : length order ≡ p = same_Some (length order) p (sym here ∙ ap (λ z. get_or places' z None) (sym q) ∙ e) in
          (omega arith, ap (λ z. z.point) (at_last p (sym s)) ∙ sym q)
      | inr apart ↦
          let h = (agree x p).0 (sym (other x apart) ∙ e) in
          let l = h.0 in
          (omega arith, ap (λ z. z.point) (at_old p l) ∙ h.1)
    ]

    -- a point with a place keeps it
    pub still : (x p : ℕ) → get_or places x None ≡ Some p → get_or (set places y.point (Some (length order))) x None ≡ Some p
    still x p has = other x (λ q. absurd (let none : get_or places x None ≡ None = ap (λ z. get_or places z None) q ∙ new in let e : ◌≡◌ {A = ℕ} 0 1 = cc in omega arith)) ∙ has

    back : (x p : ℕ) → (p < length more) × (point_in more p ≡ x) → get_or places' x None ≡ Some p
    back x p h = let n = length_more in let l = h.0 in elim (same_or p (length order)) [
      | inl q ↦
          let s : x ≡ y.point = sym h.1 ∙ ap (λ z. z.point) (at_last p q) in
          ap (λ z. get_or places' z None) s ∙ here ∙ ap Some (sym q)
      | inr apart ↦
          let old : p < length order = omega arith in
          let has : get_or places x None ≡ Some p = (agree x p).1 (old, sym (ap (λ z. z.point) (at_old p old)) ∙ h.1) in
          still x p has
    ]

    pub agree_more : Agree (set places y.point (Some (length order))) (order ++ y ∷ [])
    agree_more = λ x p. (forth x p, back x p)

  pub hung_more : ((p : ℕ) → 0 < p → p < length order → IsSome (above_in order p)) → IsSome y.above → (p : ℕ) → 0 < p → p < length (order ++ y ∷ []) → IsSome (above_in (order ++ y ∷ []) p)
  hung_more old new p some l = let n = length_more in elim (same_or p (length order)) [
    | inl q ↦ subst (λ z. IsSome z.above) (sym (at_last p q)) new
    | inr apart ↦ let before : p < length order = omega arith in subst (λ z. IsSome z.above) (sym (at_old p before)) (old p some before)
  ]

  pub lower_more : ((p : ℕ) → parent_in order p ≤ p - 1) → parent_of y.above ≤ length order - 1 → (p : ℕ) → parent_in (order ++ y ∷ []) p ≤ p - 1
  lower_more = each_more (λ p z. parent_of z.above ≤ p - 1)

  pub below_more : ((p : ℕ) → link_in order p < 2048) → link_of y.above < 2048 → (p : ℕ) → link_in (order ++ y ∷ []) p < 2048
  below_more = each_more (λ p z. link_of z.above < 2048)

-- point 0 alone has a place
nowhere : (n k : ℕ) → get_or (replicate {A = Option ℕ} n None) k None ≡ None
nowhere zero k = refl
nowhere (suc n) zero = refl
nowhere (suc n) (suc k) = nowhere n k

agree_first : Agree (set (replicate 1024 None) 0 (Some 0)) (root_place ∷ [])
agree_first zero p = ((λ e. let s : p ≡ 0 = sym (same_Some 0 p e) in (omega arith, ap (point_in (root_place ∷ [])) s)), (λ h. let l = h.0 in ap Some (omega arith)))
agree_first (suc k) p = (
  (λ e. absurd (let none = nowhere 1023 k in let z : ◌≡◌ {A = ℕ} 0 1 = cc in omega arith)),
  (λ h. absurd (let l = h.0 in let s : p ≡ 0 = omega arith in let e : ◌≡◌ {A = ℕ} 0 (suc k) = ap (point_in (root_place ∷ [])) (sym s) ∙ h.1 in omega arith)),
)

pub agree_start : (order : List Place) → order ≡ root_place ∷ [] → Agree (set (replicate 1024 None) 0 (Some 0)) order
agree_start order one = subst (λ o. Agree (set (replicate 1024 None) 0 (Some 0)) o) (sym one) agree_first

only : (P : Place → Type 0) → P root_place → (p : ℕ) → P (get_or (root_place ∷ []) p root_place)
only P here zero = here
only P here (suc k) = here

pub hung_start : (order : List Place) → order ≡ root_place ∷ [] → (p : ℕ) → 0 < p → p < length order → IsSome (above_in order p)
hung_start order one p some l = absurd (let n = ap length one in omega arith)

pub lower_start : (order : List Place) → order ≡ root_place ∷ [] → (p : ℕ) → parent_in order p ≤ p - 1
lower_start order one p = subst (λ o. parent_in o p ≤ p - 1) (sym one) (only (λ z. parent_of z.above ≤ p - 1) (omega arith) p)

pub below_start : (order : List Place) → order ≡ root_place ∷ [] → (p : ℕ) → link_in order p < 2048
below_start order one p = subst (λ o. link_in o p < 2048) (sym one) (only (λ z. link_of z.above < 2048) (omega arith) p)
