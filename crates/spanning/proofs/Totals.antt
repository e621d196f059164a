-- Costs of sets that differ in one link, from the laws of a price kind.
use Rattle.std.proofs.Common.{◌≡◌, ℕ, zero, suc, ◌+◌, ◌<◌, Bool, true, false, cond, T, sym, refl, ap, ◌∙◌, subst, inl, inr, arith}
use Rattle.price.specs.Kind.{Operations, TotalOf, Laws}
use Rattle.price.specs.Kind.TotalOf.{none, one, both}
use Rattle.spanning.specs.Costs.{cost, Priced}
use Rattle.spanning.specs.Sets.{without_link, count}
use Rattle.spanning.proofs.Subsets.{same_test, same_or, without_in, without_old, without_apart, Within}

module _ {A : Type 0} (o : Operations A) (laws : Laws o) where
  plus_zero : (m : ℕ) (x : A) → TotalOf o m x → o.plus x o.zero ≡ x
  plus_zero m x t = laws.swaps m 0 x o.zero t none ∙ laws.neutral m x t

  -- adding the same total keeps the order
  pub keeps_total : (k m n : ℕ) (z x y : A) → TotalOf o k z → TotalOf o m x → TotalOf o n y → T (o.not_above x y) → T (o.not_above (o.plus x z) (o.plus y z))
  keeps_total k m n z x y none s t h =
      subst (λ v. T (o.not_above v (o.plus y o.zero))) (sym (plus_zero m x s)) (subst (λ v. T (o.not_above x v)) (sym (plus_zero n y t)) h)
  keeps_total k m n z x y (one p a) s t h = laws.keeps_order m n x y p s t a h
  keeps_total k m n z x y (both i j v w a b) s t h =
      let first = keeps_total i m n v x y a s t h in
      let second = keeps_total j (m + i) (n + i) w (o.plus x v) (o.plus y v) b (both m i x v s a) (both n i y v t a) first in
      subst (λ u. T (o.not_above u (o.plus y (o.plus v w)))) (laws.regroups m i j x v w s a b)
      (subst (λ u. T (o.not_above (o.plus (o.plus x v) w) u)) (laws.regroups n i j y v w t a b) second)

  module _ (carried : A) (price : ℕ → A) (usable : ℕ → Bool) (priced : Priced o carried price usable) where
    abbrev C : ℕ → (ℕ → Bool) → A
    C = cost o carried price

    total_by : (n : ℕ) (X : ℕ → Bool) (b : Bool) → (T b → T (usable n)) → ((m : ℕ) × TotalOf o m (C n X)) → (m : ℕ) × TotalOf o m (cond b (o.plus (C n X) (price n)) (C n X))
    total_by n X true h t = (t.0 + 1, both t.0 1 (C n X) (price n) t.1 (one (price n) (priced.priced n (h tt))))
    total_by n X false h t = t

    pub cost_total : (n : ℕ) (X : ℕ → Bool) → Within X usable → (m : ℕ) × TotalOf o m (C n X)
    cost_total zero X h = (priced.carries, priced.total)
    cost_total (suc n) X h = total_by n X (X n) (h n) (cost_total n X h)

    -- of so many prices
    count_by : (n m : ℕ) (X : ℕ → Bool) (b : Bool) → (T b → T (usable n)) → TotalOf o m (C n X) → TotalOf o (m + cond b 1 0) (cond b (o.plus (C n X) (price n)) (C n X))
    count_by n m X true h t = both m 1 (C n X) (price n) t (one (price n) (priced.priced n (h tt)))
    count_by n m X false h t = let e : m ≡ m + 0 = omega arith in subst (λ i. TotalOf o i (C n X)) e t

    pub cost_count : (n : ℕ) (X : ℕ → Bool) → Within X usable → TotalOf o (priced.carries + count X n) (C n X)
    cost_count zero X h = let e : priced.carries ≡ priced.carries + count X zero = omega arith in subst (λ i. TotalOf o i carried) e priced.total
    cost_count (suc n) X h =
        let e : (priced.carries + count X n) + cond {A = ℕ} (X n) 1 0 ≡ priced.carries + count X (suc n) = omega arith in
        subst (λ i. TotalOf o i (C (suc n) X)) e (count_by n (priced.carries + count X n) X (X n) (h n) (cost_count n X h))

    pub cost_same : (n : ℕ) (X Y : ℕ → Bool) → ((k : ℕ) → k < n → T (X k) → T (Y k)) → ((k : ℕ) → k < n → T (Y k) → T (X k)) → C n X ≡ C n Y
    cost_same zero X Y h k = refl
    cost_same (suc n) X Y h k =
        let rest = cost_same n X Y (λ j l. h j (omega arith)) (λ j l. k j (omega arith)) in
        let last = same_test (X n) (Y n) (h n (omega arith)) (k n (omega arith)) in
        ap (λ b. cond b (o.plus (C n X) (price n)) (C n X)) last ∙ ap (λ v. cond (Y n) (o.plus v (price n)) v) rest

    -- three totals: the last two in the other order
    reorder : (m : ℕ) (x p q : A) → TotalOf o m x → T (o.price p) → T (o.price q) → o.plus (o.plus x p) q ≡ o.plus (o.plus x q) p
    reorder m x p q t a b =
        laws.regroups m 1 1 x p q t (one p a) (one q b)
        ∙ ap (o.plus x) (laws.swaps 1 1 p q (one p a) (one q b))
        ∙ sym (laws.regroups m 1 1 x q p t (one q b) (one p a))

    later : (n : ℕ) (X : ℕ → Bool) (x : ℕ) (b d : Bool) → b ≡ d → Within X usable → T (usable x) → (T b → T (usable n)) → C n X ≡ o.plus (C n (without_link X x)) (price x) → cond b (o.plus (C n X) (price n)) (C n X) ≡ o.plus (cond d (o.plus (C n (without_link X x)) (price n)) (C n (without_link X x))) (price x)
    later n X x true true e h u t rest =
        let whole = cost_total n (without_link X x) (λ k s. h k (without_old X x k s)) in
        ap (λ v. o.plus v (price n)) rest ∙ reorder whole.0 (C n (without_link X x)) (price x) (price n) whole.1 (priced.priced x u) (priced.priced n (t tt))
    later n X x true false e h u t rest = let z : ◌≡◌ {A = ℕ} 0 1 = cc in absurd (omega arith)
    later n X x false true e h u t rest = let z : ◌≡◌ {A = ℕ} 0 1 = cc in absurd (omega arith)
    later n X x false false e h u t rest = rest

    first_in : (n : ℕ) (X : ℕ → Bool) (b d : Bool) → T b → (T d → ⊥) → C n X ≡ C n (without_link X n) → cond b (o.plus (C n X) (price n)) (C n X) ≡ o.plus (cond d (o.plus (C n (without_link X n)) (price n)) (C n (without_link X n))) (price n)
    first_in n X true true t not-d e = absurd (not-d tt)
    first_in n X true false t not-d e = ap (λ v. o.plus v (price n)) e
    first_in n X false d t not-d e = absurd t

    -- a link's price stands apart from the rest
    pub cost_without : (n : ℕ) (X : ℕ → Bool) (x : ℕ) → Within X usable → x < n → T (X x) → C n X ≡ o.plus (C n (without_link X x)) (price x)
    cost_without zero X x h l t = absurd (omega arith)
    cost_without (suc n) X x h l t = elim (same_or x n) [
      | inl q ↦
          let at_n : T (X n) = subst (λ j. T (X j)) q t in
          let here = first_in n X (X n) (without_link X n n) at_n (λ s. without_apart X n n s refl) (cost_same n X (without_link X n) (λ k m s. without_in X n k s (λ r. omega arith)) (λ k m s. without_old X n k s)) in
          subst (λ j. C (suc n) X ≡ o.plus (C (suc n) (without_link X j)) (price j)) (sym q) here
      | inr apart ↦
          later n X x (X n) (without_link X x n) (same_test (X n) (without_link X x n) (λ s. without_in X x n s (λ r. apart (sym r))) (without_old X x n)) h (h x t) (h n) (cost_without n X x h (omega arith) t)
    ]
