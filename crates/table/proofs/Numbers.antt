-- The numbers that pass a test, in rising order: each stands at the place that counts those below it.
use Rattle.std.proofs.Common.{◌≡◌, ℕ, zero, suc, ◌<◌, ◌≤◌, Bool, true, false, cond, T, List, [], ◌∷◌, ◌++◌, map, length, get_or, Some, sym, refl, ap, ◌∙◌, subst, inl, inr, arith}
use native.Mathlib.Decide.{dec_lt}
use Rattle.std.proofs.lemmas.List.{length_push, get_or_push, get_or_append_left}
use Rattle.std.specs.List.{slice_get}
use Rattle.spanning.specs.Sets.{count}
use Rattle.spanning.proofs.Subsets.{true_or, same_or}
use Rattle.table.specs.Narrowed.{numbers_of}

pub is_true : (b : Bool) → T b → b ≡ true
is_true true t = refl
is_true false t = absurd t

pub is_false : (b : Bool) → (T b → ⊥) → b ≡ false
is_false true n = absurd (n tt)
is_false false n = refl

pub nth_map : {X Y : Type 0} (f : X → Y) (xs : List X) (i : ℕ) (d : X) → i < length xs → slice_get (map f xs) i ≡ Some (f (get_or xs i d))
nth_map f [] i d l = absurd (omega arith)
nth_map f (x ∷ xs) zero d l = refl
nth_map f (x ∷ xs) (suc i) d l = nth_map f xs i d (omega arith)

module _ (P : ℕ → Bool) where
  count_yes : (n : ℕ) → T (P n) → count P (suc n) ≡ suc (count P n)
  count_yes n t = let e : cond {A = ℕ} (P n) 1 0 ≡ 1 = ap (λ b. cond {A = ℕ} b 1 0) (is_true (P n) t) in omega arith

  count_no : (n : ℕ) → (T (P n) → ⊥) → count P (suc n) ≡ count P n
  count_no n t = let e : cond {A = ℕ} (P n) 1 0 ≡ 0 = ap (λ b. cond {A = ℕ} b 1 0) (is_false (P n) t) in omega arith

  pub count_rises : (a b : ℕ) → a ≤ b → count P a ≤ count P b
  count_rises a zero l = let e : a ≡ 0 = omega arith in subst (λ x. count P x ≤ count P 0) (sym e) (omega arith)
  count_rises a (suc b) l = elim (same_or a (suc b)) [
    | inl q ↦ subst (λ x. count P a ≤ count P x) q (omega arith)
    | inr apart ↦ let rest = count_rises a b (omega arith) in omega arith
  ]

  pub count_steps : (a b : ℕ) → a < b → T (P a) → count P a < count P b
  count_steps a b l t = let up = count_rises (suc a) b (omega arith) in let one = count_yes a t in omega arith

  push_yes : (n : ℕ) → T (P n) → numbers_of (suc n) P ≡ numbers_of n P ++ n ∷ []
  push_yes n t = ap (λ b. numbers_of n P ++ cond b (n ∷ []) []) (is_true (P n) t)

  push_no : (n : ℕ) → (T (P n) → ⊥) → numbers_of (suc n) P ≡ numbers_of n P ++ []
  push_no n t = ap (λ b. numbers_of n P ++ cond b (n ∷ []) []) (is_false (P n) t)

  append_nil : {X : Type 0} (xs : List X) → xs ++ [] ≡ xs
  append_nil [] = refl
  append_nil (x ∷ xs) = ap (λ ys. x ∷ ys) (append_nil xs)

  pub length_numbers : (n : ℕ) → length (numbers_of n P) ≡ count P n
  length_numbers zero = refl
  length_numbers (suc n) = elim (true_or (P n)) [
    | inl t ↦ ap length (push_yes n t) ∙ length_push (numbers_of n P) n ∙ (let rest = length_numbers n in let one = count_yes n t in omega arith)
    | inr f ↦ ap length (push_no n f ∙ append_nil (numbers_of n P)) ∙ (let rest = length_numbers n in let one = count_no n f in omega arith)
  ]

  -- the number at its place
  pub at_place : (d n k : ℕ) → k < n → T (P k) → get_or (numbers_of n P) (count P k) d ≡ k
  at_place d zero k l t = absurd (omega arith)
  at_place d (suc n) k l t = elim (same_or k n) [
    | inl q ↦
        let tn = subst (λ j. T (P j)) q t in
        ap (λ xs. get_or xs (count P k) d) (push_yes n tn) ∙ get_or_push (numbers_of n P) n d (count P k) (length_numbers n ∙ ap (count P) (sym q)) ∙ sym q
    | inr apart ↦
        let before = at_place d n k (omega arith) t in
        let step = count_steps k n (omega arith) t in
        let long = length_numbers n in
        elim (true_or (P n)) [
          | inl tn ↦ ap (λ xs. get_or xs (count P k) d) (push_yes n tn) ∙ get_or_append_left (numbers_of n P) (n ∷ []) d (count P k) (omega arith) ∙ before
          | inr fn ↦ ap (λ xs. get_or xs (count P k) d) (push_no n fn ∙ append_nil (numbers_of n P)) ∙ before
        ]
  ]

  -- what stands at a place
  pub record Stands (n i k : ℕ) : Type 0 where
    pub below : k < n
    pub passes : T (P k)
    pub place : count P k ≡ i

  more_stands : (n i k : ℕ) → Stands n i k → Stands (suc n) i k
  more_stands n i k s = record { below = (let l = s.below in omega arith); passes = s.passes; place = s.place }

  pub stands : (d n i : ℕ) → i < count P n → Stands n i (get_or (numbers_of n P) i d)
  stands d zero i l = absurd (omega arith)
  stands d (suc n) i l = elim (true_or (P n)) [
    | inl t ↦
        let one = count_yes n t in
        let long = length_numbers n in
        elim (same_or i (count P n)) [
          | inl q ↦ subst (Stands (suc n) i) (sym (ap (λ xs. get_or xs i d) (push_yes n t) ∙ get_or_push (numbers_of n P) n d i (long ∙ sym q))) (record { below = omega arith; passes = t; place = sym q })
          | inr apart ↦ subst (Stands (suc n) i) (sym (ap (λ xs. get_or xs i d) (push_yes n t) ∙ get_or_append_left (numbers_of n P) (n ∷ []) d i (omega arith))) (more_stands n i (get_or (numbers_of n P) i d) (stands d n i (omega arith)))
        ]
    | inr f ↦
        let one = count_no n f in
        subst (Stands (suc n) i) (sym (ap (λ xs. get_or xs i d) (push_no n f ∙ append_nil (numbers_of n P)))) (more_stands n i (get_or (numbers_of n P) i d) (stands d n i (omega arith)))
  ]

  -- the order of the numbers is that of their places
  pub rising : (d n i j : ℕ) → i < j → j < count P n → get_or (numbers_of n P) i d < get_or (numbers_of n P) j d
  rising d n i j l m =
      let a = get_or (numbers_of n P) i d in
      let b = get_or (numbers_of n P) j d in
      let si = stands d n i (omega arith) in
      let sj = stands d n j m in
      elim (dec_lt a b) [
        | yes h ↦ h
        | no h ↦ absurd (let r = count_rises b a (omega arith) in let p = si.place in let q = sj.place in omega arith)
      ]
