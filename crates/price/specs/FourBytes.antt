-- Four bytes and the number that they stand for; what a kind's forms promise of one form.
use Rattle.std.specs.Prelude.{◌≡◌, ℕ, zero, suc, ◌+◌, ◌*◌, ◌/◌, ◌%◌, ◌^◌, ◌<◌, Bool, true, false, cond, T, List, [], ◌∷◌, Some, None, Option, MatchOption, ◌≢◌, slice_index, refl}
use Rattle.std.proofs.Common.{sym, ap, arith}
use Rattle.price.specs.Forms.{number32, bytes32, Four, only, Tied}

pub number_of_bytes : (n : ℕ) → n < 2 ^ 32 → number32 (bytes32 n) ≡ n
number_of_bytes n h =
    let top : n / 16777216 < 256 = omega arith in
    let second : n / 65536 ≡ n / 16777216 * 256 + n / 65536 % 256 = omega arith in
    let third : n / 256 ≡ n / 65536 * 256 + n / 256 % 256 = omega arith in
    omega arith

small_at : (n k : ℕ) → slice_index (bytes32 n) k < 256
small_at n zero = omega arith
small_at n (suc zero) = omega arith
small_at n (suc (suc zero)) = omega arith
small_at n (suc (suc (suc zero))) = omega arith
small_at n (suc (suc (suc (suc k)))) = omega arith

pub four_bytes : (n : ℕ) → Four (bytes32 n)
four_bytes n = record { four = refl; small = small_at n }

at_four : (a b c d : ℕ) → a < 256 → b < 256 → c < 256 → d < 256 → bytes32 (a * 16777216 + b * 65536 + c * 256 + d) ≡ a ∷ b ∷ c ∷ d ∷ []
at_four a b c d p q r s =
    let e₁ : (a * 16777216 + b * 65536 + c * 256 + d) / 16777216 % 256 ≡ a = omega arith in
    let e₂ : (a * 16777216 + b * 65536 + c * 256 + d) / 65536 % 256 ≡ b = omega arith in
    let e₃ : (a * 16777216 + b * 65536 + c * 256 + d) / 256 % 256 ≡ c = omega arith in
    let e₄ : (a * 16777216 + b * 65536 + c * 256 + d) % 256 ≡ d = omega arith in
    rw (e₁, e₂, e₃, e₄)

pub bytes_of_number : (bs : List ℕ) → Four bs → bytes32 (number32 bs) ≡ bs
bytes_of_number [] f = absurd (omega (arith, f.four))
bytes_of_number (a ∷ []) f = absurd (omega (arith, f.four))
bytes_of_number (a ∷ b ∷ []) f = absurd (omega (arith, f.four))
bytes_of_number (a ∷ b ∷ c ∷ []) f = absurd (omega (arith, f.four))
bytes_of_number (a ∷ b ∷ c ∷ d ∷ []) f =
    let s = f.small in at_four a b c d (s 0) (s 1) (s 2) (s 3)
bytes_of_number (a ∷ b ∷ c ∷ d ∷ e ∷ bs) f = absurd (omega (arith, f.four))

below_four : (a b c d : ℕ) → a < 256 → b < 256 → c < 256 → d < 256 → a * 16777216 + b * 65536 + c * 256 + d < 2 ^ 32
below_four a b c d p q r s = omega arith

pub number_below_lem : (bs : List ℕ) → Four bs → number32 bs < 2 ^ 32
number_below_lem [] f = omega arith
number_below_lem (a ∷ []) f = absurd (omega (arith, f.four))
number_below_lem (a ∷ b ∷ []) f = absurd (omega (arith, f.four))
number_below_lem (a ∷ b ∷ c ∷ []) f = absurd (omega (arith, f.four))
number_below_lem (a ∷ b ∷ c ∷ d ∷ []) f =
    let s = f.small in below_four a b c d (s 0) (s 1) (s 2) (s 3)
number_below_lem (a ∷ b ∷ c ∷ d ∷ e ∷ bs) f = absurd (omega (arith, f.four))

module _ {A : Type 0} (admitted : A → Bool) where
  only_by : (b : Bool) (x : A) → T b → cond b (Some x) None ≡ Some x
  only_by true x t = refl
  only_by false x t = absurd t

  pub only_yes : (x : A) → T (admitted x) → only admitted x ≡ Some x
  only_yes x t = only_by (admitted x) x t

  only_from : (b : Bool) (x y : A) → cond b (Some x) None ≡ Some y → T b × (x ≡ y)
  only_from true x y e = (tt, cc)
  only_from false x y e = let z : ◌≡◌ {A = ℕ} 0 1 = cc in absurd (omega arith)

  pub only_some : (x y : A) → only admitted x ≡ Some y → T (admitted x) × (x ≡ y)
  only_some x y e = only_from (admitted x) x y e

-- what a form is told to be, from what ties forms to amounts
module _ {A : Type 0} (admitted : A → Bool) (form : A → List ℕ) (reads : List ℕ → Option A) (tied : Tied admitted form reads) where
  pub told : (bs : List ℕ) (r : Option A) → Four bs → r ≡ reads bs → MatchOption r ((x : A) → T (admitted x) → form x ≢ bs) (λ x. T (admitted x) × (form x ≡ bs))
  told bs None f e = λ x t same.
      let back : reads (form x) ≡ Some x = tied.back x t in
      let here : reads (form x) ≡ reads bs = ap reads same in
      let z : ◌≡◌ {A = ℕ} 0 1 = cc in
      omega arith
  told bs (Some x) f e = tied.sole bs x f (sym e)
