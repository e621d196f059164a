-- Labels tell which points are joined, also after one more link.
use Rattle.std.proofs.Common.{◌≡◌, ℕ, min, max, Bool, true, false, cond, eqb, sym, refl, ap, ◌∙◌, subst, inl, inr, arith}
use native.Mathlib.Decide.{dec_lt}
use Rattle.spanning.specs.Closure.{relabelled}
use Rattle.spanning.specs.Joined.{Graph, Joined}
use Rattle.spanning.specs.Joined.Joined.{forth, back}
use Rattle.spanning.specs.Sets.{with_link}
use Rattle.spanning.proofs.Chains.{join, turn, wider, split, Split}
use Rattle.spanning.proofs.Chains.Split.{around, across, against}
use Rattle.spanning.proofs.Subsets.{same_or, with_old, with_new}

-- of the points of D, two have one label exactly if links of S join them
abbrev pub Tells : (ℕ → Type 0) → (ℕ → ℕ) → Graph → (ℕ → Bool) → Type 0
Tells D R g S = (x y : ℕ) → D x → D y → (R x ≡ R y → Joined g S x y) × (Joined g S x y → R x ≡ R y)

-- one of two numbers by the other test
eqb_yes : (m k : ℕ) → m ≡ k → eqb m k ≡ true
eqb_yes m k e = grind arith

eqb_no : (m k : ℕ) → (m ≡ k → ⊥) → eqb m k ≡ false
eqb_no m k apart = grind arith

module _ (R : ℕ → ℕ) (low high : ℕ) where
  pub moved : (z : ℕ) → R z ≡ high → relabelled R low high z ≡ low
  moved z e = ap (λ b. cond b low (R z)) (eqb_yes (R z) high e)

  pub stays : (z : ℕ) → (R z ≡ high → ⊥) → relabelled R low high z ≡ R z
  stays z apart = ap (λ b. cond b low (R z)) (eqb_no (R z) high apart)

-- the lower and the higher of two
data Ordered (a b : ℕ) : ℕ → ℕ → Type 0 where
  straight : Ordered a b a b
  crossed : Ordered a b b a

ordered : (a b : ℕ) → Ordered a b (min a b) (max a b)
ordered a b = elim (dec_lt a b) [
  | yes l ↦
      let p : a ≡ min a b = omega arith in
      let q : b ≡ max a b = omega arith in
      subst (λ x. Ordered a b x (max a b)) p (subst (λ y. Ordered a b a y) q straight)
  | no l ↦
      let p : b ≡ min a b = omega arith in
      let q : a ≡ max a b = omega arith in
      subst (λ x. Ordered a b x (max a b)) p (subst (λ y. Ordered a b b y) q crossed)
]

module _ (D : ℕ → Type 0) (R : ℕ → ℕ) (g : Graph) (S : ℕ → Bool) (e : ℕ) (la : D (g.first e)) (lb : D (g.second e)) (rep : Tells D R g S) where
  abbrev a : ℕ
  a = g.first e

  abbrev b : ℕ
  b = g.second e

  abbrev S' : ℕ → Bool
  S' = with_link S e

  old_chain : (x y : ℕ) → D x → D y → R x ≡ R y → Joined g S' x y
  old_chain x y lx ly q = wider g S S' (with_old S e) x y ((rep x y lx ly).0 q)

  forwards : (x y : ℕ) → D x → D y → R x ≡ R a → R y ≡ R b → Joined g S' x y
  forwards x y lx ly p q = join g S' x b y (forth x e (with_new S e) (old_chain x a lx la p)) (old_chain b y lb ly (sym q))

  backwards : (x y : ℕ) → D x → D y → R x ≡ R b → R y ≡ R a → Joined g S' x y
  backwards x y lx ly p q = join g S' x a y (back x e (with_new S e) (old_chain x b lx lb p)) (old_chain a y la ly (sym q))

  -- one root is the higher, the other the lower
  by_order : (low high : ℕ) → Ordered (R a) (R b) low high → (x y : ℕ) → D x → D y → R x ≡ high → R y ≡ low → Joined g S' x y
  by_order low high straight x y lx ly p q = backwards x y lx ly p q
  by_order low high crossed x y lx ly p q = forwards x y lx ly p q

  ends_meet : (low high : ℕ) → Ordered (R a) (R b) low high → relabelled R low high a ≡ relabelled R low high b
  ends_meet low high straight = elim (same_or (R a) (R b)) [
    | inl q ↦ moved R (R a) (R b) a q ∙ sym (moved R (R a) (R b) b refl)
    | inr apart ↦ stays R (R a) (R b) a apart ∙ sym (moved R (R a) (R b) b refl)
  ]
  ends_meet low high crossed = elim (same_or (R b) (R a)) [
    | inl q ↦ moved R (R b) (R a) a refl ∙ sym (moved R (R b) (R a) b q)
    | inr apart ↦ moved R (R b) (R a) a refl ∙ sym (stays R (R b) (R a) b apart)
  ]

  -- equal roots have equal roots after
  alike : (low high x y : ℕ) → R x ≡ R y → relabelled R low high x ≡ relabelled R low high y
  alike low high x y q = ap (λ r. cond (eqb r high) low r) q

  to_chain : (low high : ℕ) → Ordered (R a) (R b) low high → (x y : ℕ) → D x → D y → relabelled R low high x ≡ relabelled R low high y → Joined g S' x y
  to_chain low high order x y lx ly q = elim (same_or (R x) high) [
    | inl hx ↦ elim (same_or (R y) high) [
      | inl hy ↦ old_chain x y lx ly (hx ∙ sym hy)
      | inr ny ↦ by_order low high order x y lx ly hx (sym (stays R low high y ny) ∙ sym q ∙ moved R low high x hx)
    ]
    | inr nx ↦ elim (same_or (R y) high) [
      | inl hy ↦ turn g S' y x (by_order low high order y x ly lx hy (sym (stays R low high x nx) ∙ q ∙ moved R low high y hy))
      | inr ny ↦ old_chain x y lx ly (sym (stays R low high x nx) ∙ q ∙ stays R low high y ny)
    ]
  ]

  from_split : (low high : ℕ) → Ordered (R a) (R b) low high → (x y : ℕ) → D x → D y → Split g S e x y → relabelled R low high x ≡ relabelled R low high y
  from_split low high order x y lx ly (around d) = alike low high x y ((rep x y lx ly).1 d)
  from_split low high order x y lx ly (across p q) = alike low high x a ((rep x a lx la).1 p) ∙ ends_meet low high order ∙ alike low high b y ((rep b y lb ly).1 q)
  from_split low high order x y lx ly (against p q) = alike low high x b ((rep x b lx lb).1 p) ∙ sym (ends_meet low high order) ∙ alike low high a y ((rep a y la ly).1 q)

  pub tells_more : Tells D (relabelled R (min (R a) (R b)) (max (R a) (R b))) g S'
  tells_more x y kx ky =
      let low = min (R a) (R b) in
      let high = max (R a) (R b) in
      let order = ordered (R a) (R b) in (
        (λ q. to_chain low high order x y kx ky q),
        (λ d. from_split low high order x y kx ky (split g S e x y d)),
      )
