-- Climbing a forest of parents.
use Rattle.std.proofs.Common.{◌≡◌, ℕ, zero, suc, ◌<◌, ◌≤◌, min, max, Bool, true, false, cond, eqb, List, length, get_or, set, replicate, sym, refl, ap, ◌∙◌, subst, inl, inr, arith}
use native.Mathlib.Decide.{dec_lt}
use Rattle.std.proofs.lemmas.List.{get_or-set_same, get_or-set_other, get_or_past}
use Rattle.spanning.specs.Roots.{Forest, steps_up, root_of, under}
use Rattle.spanning.proofs.Subsets.{same_or}

-- a root stays
root_stays : (ps : List ℕ) (n x : ℕ) → get_or ps x 0 ≡ x → steps_up n ps x ≡ x
root_stays ps zero x e = refl
root_stays ps (suc n) x e = ap (steps_up n ps) e ∙ root_stays ps n x e

-- r is the root that the parents of x lead to
pub data Leads (ps : List ℕ) : ℕ → ℕ → Type 0 where
  stop : (x : ℕ) → get_or ps x 0 ≡ x → Leads ps x x
  up : (x r : ℕ) → (get_or ps x 0 ≡ x → ⊥) → Leads ps (get_or ps x 0) r → Leads ps x r

pub leads_root : (ps : List ℕ) (x r : ℕ) → Leads ps x r → get_or ps r 0 ≡ r
leads_root ps x r (stop y e) = e
leads_root ps x r (up y s apart d) = leads_root ps (get_or ps x 0) r d

module _ (ps : List ℕ) (forest : Forest ps) where
  leads_by : (n x : ℕ) → x ≤ n → Leads ps x (steps_up n ps x)
  leads_by zero x l = let h = forest x in stop x (omega arith)
  leads_by (suc n) x l = elim (same_or (get_or ps x 0) x) [
    | inl q ↦ subst (λ r. Leads ps x r) (sym (root_stays ps (suc n) x q)) (stop x q)
    | inr apart ↦ let h = forest x in up x (steps_up n ps (get_or ps x 0)) apart (leads_by n (get_or ps x 0) (omega arith))
  ]

  pub leads : (x : ℕ) → Leads ps x (root_of ps x)
  leads x = leads_by x x (omega arith)

  steps_from : (n x r : ℕ) → x ≤ n → Leads ps x r → steps_up n ps x ≡ r
  steps_from n x r l (stop y e) = root_stays ps n x e
  steps_from zero x r l (up y s apart d) = let h = forest x in absurd (apart (omega arith))
  steps_from (suc n) x r l (up y s apart d) = let h = forest x in steps_from n (get_or ps x 0) r (omega arith) d

  pub root_from : (x r : ℕ) → Leads ps x r → root_of ps x ≡ r
  root_from x r d = steps_from x x r (omega arith) d

  pub root_is_root : (x : ℕ) → get_or ps (root_of ps x) 0 ≡ root_of ps x
  root_is_root x = leads_root ps x (root_of ps x) (leads x)

  pub root_of_parent : (x : ℕ) → root_of ps (get_or ps x 0) ≡ root_of ps x
  root_of_parent x = elim (same_or (get_or ps x 0) x) [
    | inl q ↦ ap (root_of ps) q
    | inr apart ↦ sym (root_from x (root_of ps (get_or ps x 0)) (up x (root_of ps (get_or ps x 0)) apart (leads (get_or ps x 0))))
  ]

-- a point hung from a lower one
module _ (ps : List ℕ) (forest : Forest ps) (a b : ℕ) (lower : b ≤ a) (within : a < length ps) where
  abbrev hung : List ℕ
  hung = set ps a b

  pub hung_forest : Forest hung
  hung_forest x = elim (same_or x a) [
    | inl q ↦ subst (λ y. get_or hung y 0 ≤ y) (sym q) (subst (λ v. v ≤ a) (sym (get_or-set_same ps a b 0 within)) lower)
    | inr apart ↦ subst (λ v. v ≤ x) (sym (get_or-set_other ps a x b 0 apart)) (forest x)
  ]

  -- roots after that, where b's root is known to be r, and what hung from a's root now has it
  module _ (f : ℕ → ℕ) (at_a : f a ≡ f b) (fixed : (x : ℕ) → get_or hung x 0 ≡ x → f x ≡ x) (along : (x : ℕ) → (x ≡ a → ⊥) → f (get_or ps x 0) ≡ f x) where
    climbs : (n x : ℕ) → x < n → Leads hung x (f x)
    climbs zero x l = absurd (omega arith)
    climbs (suc n) x l = elim (same_or (get_or hung x 0) x) [
      | inl q ↦ subst (λ r. Leads hung x r) (sym (fixed x q)) (stop x q)
      | inr apart ↦ let h = hung_forest x in elim (same_or x a) [
        | inl q ↦ up x (f x) apart (subst (λ r. Leads hung (get_or hung x 0) r) (ap f (ap (λ y. get_or hung y 0) q ∙ get_or-set_same ps a b 0 within) ∙ sym at_a ∙ ap f (sym q)) (climbs n (get_or hung x 0) (omega arith)))
        | inr other ↦ up x (f x) apart (subst (λ r. Leads hung (get_or hung x 0) r) (ap f (get_or-set_other ps a x b 0 other) ∙ along x other) (climbs n (get_or hung x 0) (omega arith)))
      ]
    ]

    pub roots_are : (x : ℕ) → root_of hung x ≡ f x
    roots_are x = root_from hung hung_forest x (f x) (climbs (suc x) x (omega arith))

-- a path halved: the point hangs from its parent's parent, and no root changes
module _ (ps : List ℕ) (forest : Forest ps) (a : ℕ) (within : a < length ps) where
  abbrev grand : ℕ
  grand = get_or ps (get_or ps a 0) 0

  pub grand_lower : grand ≤ a
  grand_lower = let p = forest a in let q = forest (get_or ps a 0) in omega arith

  halved_fixed : (x : ℕ) → get_or (set ps a grand) x 0 ≡ x → root_of ps x ≡ x
  halved_fixed x e = elim (same_or x a) [
    | inl q ↦
        let top : grand ≡ a = sym (get_or-set_same ps a grand 0 within) ∙ ap (λ y. get_or (set ps a grand) y 0) (sym q) ∙ e ∙ q in
        let p = forest a in
        let r = forest (get_or ps a 0) in
        let own : get_or ps a 0 ≡ a = omega arith in
        ap (root_of ps) q ∙ root_stays ps a a own ∙ sym q
    | inr other ↦ root_stays ps x x (sym (get_or-set_other ps a x grand 0 other) ∙ e)
  ]

  pub halved : (x : ℕ) → root_of (set ps a grand) x ≡ root_of ps x
  halved = roots_are ps forest a grand grand_lower within (root_of ps) (sym (root_of_parent ps forest (get_or ps a 0) ∙ root_of_parent ps forest a)) halved_fixed (λ x other. root_of_parent ps forest x)

-- one root hung from a lower one
module _ (ps : List ℕ) (forest : Forest ps) (low high : ℕ) (less : low < high) (within : high < length ps) (low_root_lem : get_or ps low 0 ≡ low) (high-root : get_or ps high 0 ≡ high) where
  at_root : (x r : ℕ) (b : Bool) → root_of ps x ≡ r → eqb (root_of ps x) high ≡ b → under ps low high x ≡ cond b low r
  at_root x r b e h = ap (λ t. cond t low (root_of ps x)) h ∙ ap (λ t. cond b low t) e

  same_test_true : (m : ℕ) → eqb m m ≡ true
  same_test_true m = grind arith

  apart_test_lem : (m k : ℕ) → (m ≡ k → ⊥) → eqb m k ≡ false
  apart_test_lem m k apart = grind arith

  under_high : under ps low high high ≡ low
  under_high = let r = root_stays ps high high high-root in at_root high high true r (ap (λ t. eqb t high) r ∙ same_test_true high)

  under_other : (x : ℕ) → get_or ps x 0 ≡ x → (x ≡ high → ⊥) → under ps low high x ≡ x
  under_other x e apart = let r = root_stays ps x x e in at_root x x false r (ap (λ t. eqb t high) r ∙ apart_test_lem x high apart)

  linked_fixed : (x : ℕ) → get_or (set ps high low) x 0 ≡ x → under ps low high x ≡ x
  linked_fixed x e = elim (same_or x high) [
    | inl q ↦ absurd (let top : low ≡ high = sym (get_or-set_same ps high low 0 within) ∙ ap (λ y. get_or (set ps high low) y 0) (sym q) ∙ e ∙ q in omega arith)
    | inr other ↦ under_other x (sym (get_or-set_other ps high x low 0 other) ∙ e) other
  ]

  pub linked : (x : ℕ) → root_of (set ps high low) x ≡ under ps low high x
  linked = roots_are ps forest high low (omega arith) within (under ps low high) (under_high ∙ sym (under_other low low_root_lem (λ q. omega arith))) linked_fixed (λ x other. ap (λ t. cond (eqb t high) low t) (root_of_parent ps forest x))

-- past the points the root is 0
pub root_past : (ps : List ℕ) → Forest ps → (x : ℕ) → length ps ≤ x → 0 ≡ root_of ps x
root_past ps forest x l = ap (root_of ps) (sym (get_or_past ps x 0 l)) ∙ root_of_parent ps forest x

pub root_grand : (ps : List ℕ) → Forest ps → (a : ℕ) → root_of ps (get_or ps (get_or ps a 0) 0) ≡ root_of ps a
root_grand ps forest a = root_of_parent ps forest (get_or ps a 0) ∙ root_of_parent ps forest a

pub own_root : (ps : List ℕ) (x : ℕ) → get_or ps x 0 ≡ x → root_of ps x ≡ x
own_root ps x e = root_stays ps x x e

pub root_lower : (ps : List ℕ) → Forest ps → (x r : ℕ) → Leads ps x r → r ≤ x
root_lower ps forest x r (stop y e) = omega arith
root_lower ps forest x r (up y s apart d) = let h = forest x in let k = root_lower ps forest (get_or ps x 0) r d in omega arith

pub root_within : (ps : List ℕ) → Forest ps → 0 < length ps → (x : ℕ) → root_of ps x < length ps
root_within ps forest some x = elim (dec_lt x (length ps)) [
  | yes l ↦ let h = root_lower ps forest x (root_of ps x) (leads ps forest x) in omega arith
  | no l ↦ let e = root_past ps forest x (omega arith) in omega arith
]

-- two different roots, the lower and the higher
pub record Two (ps : List ℕ) (n low high : ℕ) : Type 0 where
  pub less : low < high
  pub within : high < n
  pub low_root : get_or ps low 0 ≡ low
  pub high_root : get_or ps high 0 ≡ high

pub two_roots : (ps : List ℕ) (n a b : ℕ) → (a ≡ b → ⊥) → a < n → b < n → get_or ps a 0 ≡ a → get_or ps b 0 ≡ b → Two ps n (min a b) (max a b)
two_roots ps n a b apart la lb ra rb = elim (dec_lt a b) [
  | yes l ↦
      let low : a ≡ min a b = omega arith in
      let high : b ≡ max a b = omega arith in
      record { less = omega arith; within = omega arith; low_root = subst (λ y. get_or ps y 0 ≡ y) low ra; high_root = subst (λ y. get_or ps y 0 ≡ y) high rb }
  | no l ↦
      let low : b ≡ min a b = omega arith in
      let high : a ≡ max a b = omega arith in
      record { less = omega arith; within = omega arith; low_root = subst (λ y. get_or ps y 0 ≡ y) low rb; high_root = subst (λ y. get_or ps y 0 ≡ y) high ra }
]

-- points one by one
pub zeros : (n k : ℕ) → ◌≡◌ {A = ℕ} (get_or (replicate n 0) k 0) 0
zeros zero k = refl
zeros (suc n) zero = refl
zeros (suc n) (suc k) = zeros n k

pub own_forest : (ps : List ℕ) (n : ℕ) → ((k : ℕ) → k < n → get_or ps k 0 ≡ k) → ((k : ℕ) → n ≤ k → get_or ps k 0 ≡ 0) → Forest ps
own_forest ps n own none x = elim (dec_lt x n) [
  | yes l ↦ let e = own x l in omega arith
  | no l ↦ let e = none x (omega arith) in omega arith
]
