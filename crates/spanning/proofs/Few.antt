-- Labels are the lowest points of their parts, and links without a ring are fewer than the points.
use Rattle.std.proofs.Common.{◌≡◌, ℕ, zero, suc, ◌+◌, ◌<◌, ◌≤◌, min, max, Bool, true, false, cond, T, eqb, ◌⊎◌, sym, refl, ap, ◌∙◌, subst, inl, inr, arith, eqb→eq}
use lib.Dec.{eqb_refl}
use Rattle.spanning.specs.Closure.{relabelled, label_of}
use Rattle.spanning.specs.Joined.{Graph, NoRing}
use Rattle.spanning.specs.Sets.{without_link, count}
use Rattle.spanning.proofs.Chains.{wider}
use Rattle.spanning.proofs.LabelsDecide.{under, under_old, under_less, taken, left, labels_tell}
use Rattle.spanning.proofs.Labels.{moved, stays}
use Rattle.spanning.proofs.Search.{count_same, count_without, count_some}
use Rattle.spanning.proofs.Subsets.{same_or, true_or, without_in, without_old, without_apart}

own : (x y : ℕ) → x ≡ y → T (eqb x y)
own x y e = subst (λ z. T (eqb x z)) e (eqb_refl x)

-- labels R that are labels of themselves, no higher than the point; two of them, low and high
module _ (R : ℕ → ℕ) (lower : (x : ℕ) → R x ≤ x) (idle : (x : ℕ) → R (R x) ≡ R x) (low high : ℕ) (order : low ≤ high) (low-own : R low ≡ low) (high-own : R high ≡ high) where
  R' : ℕ → ℕ
  R' = relabelled R low high

  pub lower_more : (x : ℕ) → relabelled R low high x ≤ x
  lower_more x = elim (same_or (R x) high) [
    | inl q ↦ let m = moved R low high x q in let l = lower x in omega arith
    | inr n ↦ let m = stays R low high x n in let l = lower x in omega arith
  ]

  at_low : relabelled R low high low ≡ low
  at_low = elim (same_or (R low) high) [
    | inl q ↦ moved R low high low q
    | inr n ↦ stays R low high low n ∙ low-own
  ]

  pub idle_more : (x : ℕ) → relabelled R low high (relabelled R low high x) ≡ relabelled R low high x
  idle_more x = elim (same_or (R x) high) [
    | inl q ↦ let m = moved R low high x q in ap (relabelled R low high) m ∙ at_low ∙ sym m
    | inr n ↦ let m = stays R low high x n in ap (relabelled R low high) m ∙ stays R low high (R x) (λ e. n (sym (idle x) ∙ e)) ∙ idle x ∙ sym m
  ]

  -- where the two differ, the higher is no longer a label, and the others stay
  module _ (differ : low ≡ high → ⊥) where
    owner_old : (z : ℕ) → T (eqb (relabelled R low high z) z) → T (without_link (λ k. eqb (R k) k) high z)
    owner_old z t = elim (same_or (R z) high) [
      | inl q ↦ absurd (
          let m = moved R low high z q in
          let e = eqb→eq (relabelled R low high z) z t in
          let back : R low ≡ high = ap R (sym m ∙ e) ∙ q in
          differ (sym low-own ∙ back))
      | inr n ↦
          let m = stays R low high z n in
          let e = eqb→eq (relabelled R low high z) z t in
          without_in (λ k. eqb (R k) k) high z (own (R z) z (sym m ∙ e)) (λ q. n (ap R q ∙ high-own))
    ]

    owner_new : (z : ℕ) → T (without_link (λ k. eqb (R k) k) high z) → T (eqb (relabelled R low high z) z)
    owner_new z t =
        let e = eqb→eq (R z) z (without_old (λ k. eqb (R k) k) high z t) in
        let apart = without_apart (λ k. eqb (R k) k) high z t in
        own (relabelled R low high z) z (stays R low high z (λ q. apart (sym e ∙ q)) ∙ e)

    pub one_owner_less : (p : ℕ) → high < p → suc (count (λ z. eqb (relabelled R low high z) z) p) ≡ count (λ z. eqb (R z) z) p
    one_owner_less p l =
        let same = count_same (λ z. eqb (relabelled R low high z) z) (without_link (λ k. eqb (R k) k) high) p (λ z m. owner_old z) (λ z m. owner_new z) in
        let gone = count_without (λ z. eqb (R z) z) p high l (own (R high) high high-own) in
        omega arith

all_own : (p : ℕ) → count (λ z. eqb z z) p ≡ p
all_own zero = refl
all_own (suc p) = let rest = all_own p in let here : cond {A = ℕ} (eqb p p) 1 0 ≡ 1 = grind arith in omega arith

-- the lower and the higher of two labels are labels
pick_low : (P : ℕ → Type 0) (a b : ℕ) → P a → P b → P (min a b)
pick_low P a b x y = elim (either a b) [
  | inl l ↦ let e : a ≡ min a b = omega arith in subst P e x
  | inr l ↦ let e : b ≡ min a b = omega arith in subst P e y
] where
  either : (a b : ℕ) → (a ≤ b) ⊎ (b ≤ a)
  either a b = elim (same_or (min a b) a) [
    | inl e ↦ inl (omega arith)
    | inr e ↦ inr (omega arith)
  ]

pick_high : (P : ℕ → Type 0) (a b : ℕ) → P a → P b → P (max a b)
pick_high P a b x y = elim (same_or (max a b) a) [
  | inl e ↦ subst P (sym e) x
  | inr n ↦ let e : b ≡ max a b = omega arith in subst P e y
]

module _ (g : Graph) where
  abbrev L : ℕ → (ℕ → Bool) → ℕ → ℕ
  L = label_of g

  -- a label is no higher than the point, and its own label
  good : (m : ℕ) (S : ℕ → Bool) (x : ℕ) → (L m S x ≤ x) × (L m S (L m S x) ≡ L m S x)
  good zero S x = (omega arith, refl)
  good (suc m) S x =
      let low : (z : ℕ) → L m S z ≤ z = λ z. (good m S z).0 in
      let idle : (z : ℕ) → L m S (L m S z) ≡ L m S z = λ z. (good m S z).1 in
      let a = L m S (g.first m) in
      let b = L m S (g.second m) in
      let low-own = pick_low (λ z. L m S z ≡ z) a b (idle (g.first m)) (idle (g.second m)) in
      let high-own = pick_high (λ z. L m S z ≡ z) a b (idle (g.first m)) (idle (g.second m)) in
      elim (true_or (S m)) [
        | inl t ↦
            let here = taken g m S t in (
              subst (λ y. y ≤ x) (sym (here x)) (lower_more (L m S) low idle (min a b) (max a b) (omega arith) low-own high-own x),
              here (L (suc m) S x) ∙ ap (relabelled (L m S) (min a b) (max a b)) (here x) ∙ idle_more (L m S) low idle (min a b) (max a b) (omega arith) low-own high-own x ∙ sym (here x),
            )
        | inr n ↦
            let here = left g m S n in
            (subst (λ y. y ≤ x) (sym (here x)) (low x), here (L (suc m) S x) ∙ ap (L m S) (here x) ∙ idle x ∙ sym (here x))
      ]

  pub label_low : (m : ℕ) (S : ℕ → Bool) (x : ℕ) → label_of g m S x ≤ x
  label_low m S x = (good m S x).0

  pub label_idle : (m : ℕ) (S : ℕ → Bool) (x : ℕ) → label_of g m S (label_of g m S x) ≡ label_of g m S x
  label_idle m S x = (good m S x).1

  -- links X without a ring, whose ends are below p
  module _ (X : ℕ → Bool) (p : ℕ) (ring : NoRing g X) (first_below : (k : ℕ) → T (X k) → g.first k < p) (second_below : (k : ℕ) → T (X k) → g.second k < p) where
    ends_differ : (m : ℕ) → T (X m) → L m X (g.first m) ≡ L m X (g.second m) → ⊥
    ends_differ m t e = ring m t (wider g (under m X) (without_link X m) (λ k s. without_in X m k (under_old g m X k s) (λ q. let l = under_less g m X k s in omega arith)) (g.first m) (g.second m) ((labels_tell g m X (g.first m) (g.second m) tt tt).0 e))

    pub parts_and_links : (m : ℕ) → count (λ z. eqb (L m X z) z) p + count X m ≡ p
    parts_and_links zero = let e = all_own p in omega arith
    parts_and_links (suc m) = elim (true_or (X m)) [
      | inl t ↦
          let a = L m X (g.first m) in
          let b = L m X (g.second m) in
          let differ = ends_differ m t in
          let la = label_low m X (g.first m) in
          let lb = label_low m X (g.second m) in
          let fa = first_below m t in
          let fb = second_below m t in
          let less = one_owner_less (L m X) (label_low m X) (label_idle m X) (min a b) (max a b) (omega arith) (pick_low (λ z. L m X z ≡ z) a b (label_idle m X (g.first m)) (label_idle m X (g.second m))) (pick_high (λ z. L m X z ≡ z) a b (label_idle m X (g.first m)) (label_idle m X (g.second m))) (λ e. differ (omega arith)) p (omega arith) in
          let same = count_same (λ z. eqb (L (suc m) X z) z) (λ z. eqb (relabelled (L m X) (min a b) (max a b) z) z) p (λ z l s. subst (λ y. T (eqb y z)) (taken g m X t z) s) (λ z l s. subst (λ y. T (eqb y z)) (sym (taken g m X t z)) s) in
          let rest = parts_and_links m in
          let one : cond {A = ℕ} (X m) 1 0 ≡ 1 = one_of (X m) t in
          omega arith
      | inr n ↦
          let same = count_same (λ z. eqb (L (suc m) X z) z) (λ z. eqb (L m X z) z) p (λ z l s. subst (λ y. T (eqb y z)) (left g m X n z) s) (λ z l s. subst (λ y. T (eqb y z)) (sym (left g m X n z)) s) in
          let rest = parts_and_links m in
          let none : cond {A = ℕ} (X m) 1 0 ≡ 0 = none_of (X m) n in
          omega arith
    ] where
      one_of : (b : Bool) → T b → cond {A = ℕ} b 1 0 ≡ 1
      one_of true t = omega arith
      one_of false t = absurd t

      none_of : (b : Bool) → (T b → ⊥) → cond {A = ℕ} b 1 0 ≡ 0
      none_of true n = absurd (n tt)
      none_of false n = omega arith

    -- they are fewer than the points
    pub fewer : 0 < p → (m : ℕ) → count X m < p
    fewer some m =
        let all = parts_and_links m in
        let zero-own = label_low m X 0 in
        let one = count_some (λ z. eqb (L m X z) z) p 0 some (own (L m X 0) 0 (omega arith)) in
        omega arith
