-- An array made from a function of the number, by calls that leave the function as it is.
use Rattle.std.proofs.Common.{◌≡◌, ℕ, zero, suc, ◌+◌, ◌<◌, ◌≤◌, List, get_or, subst, sym, refl, arith}
use native.Mathlib.Decide.{dec_lt}
use denote.Param.Members.{Mut, Called}
use Rattle.std.specs.Array.{IsFromFnResult, IsFromFnResultFrom}

module _ {F B : Type 0} (g : Mut F (ℕ × Unit {0}) B) (f : F) (R : ℕ → B → Type 0) (N : ℕ) (one : (x : ℕ) (y : B) (q : F) → x < N → Called g f (x, tt) y q → (q ≡ f) × R x y) (ys : List B) where
  made_from : (n i j : ℕ) (p : F) → p ≡ f → i + n ≤ N → IsFromFnResultFrom g p ys i n → (d : B) → i ≤ j → j < i + n → R j (get_or ys j d)
  made_from zero i j p same w e d low high = absurd (omega arith)
  made_from (suc n) i j p same w s d low high =
      let told : (s.0 ≡ f) × R i s.1 = one i s.1 s.0 (omega arith) (subst (λ r. Called g r (i, tt) s.1 s.0) same s.3) in
      elim (dec_lt i j) [
        | yes later ↦ made_from n (i + 1) j s.0 told.0 (omega arith) s.4 d (omega arith) (omega arith)
        | no here ↦ let e : j ≡ i = omega arith in subst (λ k. R k (get_or ys k d)) (sym e) (subst (R i) (sym (s.2.1 d)) told.1)
      ]

  -- each item is as the function tells
  pub told_each : IsFromFnResult g f ys N → (k : ℕ) (d : B) → k < N → R k (get_or ys k d)
  told_each r k d l = made_from N 0 k f refl (omega arith) r.each d (omega arith) (omega arith)
