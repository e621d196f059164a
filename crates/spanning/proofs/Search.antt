-- Searching and counting below a number.
use Rattle.std.proofs.Common.{◌≡◌, ℕ, zero, suc, ◌<◌, ◌≤◌, Bool, true, false, cond, T, ◌⊎◌, sym, subst, inl, inr, arith}
use Rattle.spanning.specs.Sets.{count, without_link}
use Rattle.spanning.proofs.Subsets.{true_or, same_or, without_in, without_old, without_apart}

-- the first place that passes, or none
pub find : (P : ℕ → Bool) (n : ℕ) → ((k : ℕ) × (k < n) × T (P k)) ⊎ ((k : ℕ) → k < n → T (P k) → ⊥)
find P zero = inr (λ k h t. omega arith)
find P (suc n) =
    elim (find P n) [
      | inl found ↦ inl (found.0, (let h = found.1 in omega arith), found.2)
      | inr none ↦ elim (true_or (P n)) [
        | inl t ↦ inl (n, omega arith, t)
        | inr no_last ↦ inr (λ k h t. elim (same_or k n) [
          | inl q ↦ no_last (subst (λ j. T (P j)) q t)
          | inr apart ↦ none k (omega arith) t
        ])
      ]
    ]

one_most : (a b : Bool) → (T a → T b) → cond {A = ℕ} a 1 0 ≤ cond {A = ℕ} b 1 0
one_most true true h = omega arith
one_most true false h = absurd (h tt)
one_most false true h = omega arith
one_most false false h = omega arith

one_less : (a b : Bool) → T b → (T a → ⊥) → cond {A = ℕ} a 1 0 < cond {A = ℕ} b 1 0
one_less true b t no-a = absurd (no-a tt)
one_less false true t no-a = omega arith
one_less false false t no-a = absurd t

pub count_most : (P Q : ℕ → Bool) (n : ℕ) → ((k : ℕ) → k < n → T (P k) → T (Q k)) → count P n ≤ count Q n
count_most P Q zero h = omega arith
count_most P Q (suc n) h =
    let rest = count_most P Q n (λ k l. h k (omega arith)) in
    let last = one_most (P n) (Q n) (h n (omega arith)) in
    omega arith

pub count_less : (P Q : ℕ → Bool) (n j : ℕ) → ((k : ℕ) → k < n → T (P k) → T (Q k)) → j < n → T (Q j) → (T (P j) → ⊥) → count P n < count Q n
count_less P Q zero j h l t no-p = absurd (omega arith)
count_less P Q (suc n) j h l t no-p =
    elim (same_or j n) [
      | inl q ↦
          let rest = count_most P Q n (λ k m. h k (omega arith)) in
          let last = one_less (P n) (Q n) (subst (λ i. T (Q i)) q t) (λ s. no-p (subst (λ i. T (P i)) (sym q) s)) in
          omega arith
      | inr apart ↦
          let rest = count_less P Q n j (λ k m. h k (omega arith)) (omega arith) t no-p in
          let last = one_most (P n) (Q n) (h n (omega arith)) in
          omega arith
    ]

one_bound : (b : Bool) → cond {A = ℕ} b 1 0 ≤ 1
one_bound true = omega arith
one_bound false = omega arith

pub count_bound : (P : ℕ → Bool) (n : ℕ) → count P n ≤ n
count_bound P zero = omega arith
count_bound P (suc n) = let rest = count_bound P n in let last = one_bound (P n) in omega arith

-- a number outside does not count
pub count_same : (P Q : ℕ → Bool) (n : ℕ) → ((k : ℕ) → k < n → T (P k) → T (Q k)) → ((k : ℕ) → k < n → T (Q k) → T (P k)) → count P n ≡ count Q n
count_same P Q n f g = let a = count_most P Q n f in let b = count_most Q P n g in omega arith

one_yes : (b : Bool) → T b → cond {A = ℕ} b 1 0 ≡ 1
one_yes true t = omega arith
one_yes false t = absurd t

one_no : (b : Bool) → (T b → ⊥) → cond {A = ℕ} b 1 0 ≡ 0
one_no true n = absurd (n tt)
one_no false n = omega arith

pub count_without : (P : ℕ → Bool) (n h : ℕ) → h < n → T (P h) → suc (count (without_link P h) n) ≡ count P n
count_without P zero h l t = absurd (omega arith)
count_without P (suc n) h l t =
    elim (same_or h n) [
      | inl q ↦
          let rest = count_same (without_link P h) P n (λ k m s. without_old P h k s) (λ k m s. without_in P h k s (λ e. omega arith)) in
          let here = one_yes (P n) (subst (λ i. T (P i)) q t) in
          let gone = one_no (without_link P h n) (λ s. without_apart P h n s (sym q)) in
          omega arith
      | inr apart ↦
          let rest = count_without P n h (omega arith) t in
          let upper = one_most (without_link P h n) (P n) (without_old P h n) in
          let lower = one_most (P n) (without_link P h n) (λ s. without_in P h n s (λ e. apart (sym e))) in
          omega arith
    ]

pub count_some : (P : ℕ → Bool) (n k : ℕ) → k < n → T (P k) → 0 < count P n
count_some P n k l t = let e = count_without P n k l t in omega arith
