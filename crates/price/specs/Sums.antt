-- The laws of the kind `bytes`: sums of whole numbers.
use Rattle.std.specs.Prelude.{◌≡◌, ℕ, ◌+◌, ◌*◌, ◌^◌, ◌<◌, ◌≤◌, Bool, true, false, ◌&&◌, T, ◌⊎◌, ℤ, pos, negsuc, ◌+ℤ◌, neg_ℤ, ◌≤ℤ◌, FitsSigned, int_le}
use Rattle.std.proofs.Common.{sym, ap, subst, ◌∙◌, inl, inr, arith, to_z, of_z}
use Rattle.std.specs.Int.Signed.{le_z_yes}
use Rattle.std.specs.Int.{saturate_to_bits, w32}
use Rattle.std.proofs.lemmas.Int.{ints, by_lt_z, to_z-of_z, of_z-to_z}
use Rattle.price.specs.Kind.{TotalOf, Laws}
use Rattle.price.specs.Kind.TotalOf.{none, one, both}
use Rattle.price.specs.Additive.{largest, least32, most32, within, of, operations, forms}
use Rattle.price.specs.Forms.{number32, bytes32, Tied, Storable, only}
use Rattle.price.specs.FourBytes.{number_of_bytes, number_below_lem, bytes_of_number, four_bytes, only_yes, only_some}
use Rattle.price.specs.declared.additive.Bytes.{Bytes}

-- a test of two parts, taken apart
pub both_left : (a b : Bool) → T (a && b) → T a
both_left true b t = tt
both_left false b t = t

pub both_right : (a b : Bool) → T (a && b) → T b
both_right true b t = t
both_right false b t = absurd t

within_low : (low high z : ℤ) → T (within low high z) → low ≤ℤ z
within_low low high z t = le_z_yes (both_left (int_le low z) (int_le z high) t)

within_high : (low high z : ℤ) → T (within low high z) → z ≤ℤ high
within_high low high z t = le_z_yes (both_right (int_le low z) (int_le z high) t)

-- n prices come to at most n times the largest, on either side of zero
abbrev pub Bounded : ℕ → ℤ → Type 0
Bounded n z = (neg_ℤ (pos (n * 1000000)) ≤ℤ z) × (z ≤ℤ pos (n * 1000000))

pub bounded : (n : ℕ) (x : Bytes) → TotalOf operations n x → Bounded n x.0
bounded n x none = (omega (arith, ints), omega (arith, ints))
bounded n x (one p h) =
    let low = within_low (neg_ℤ largest) largest p.0 h in
    let high = within_high (neg_ℤ largest) largest p.0 h in
    (omega (arith, ints), omega (arith, ints))
bounded n x (both k m y z a b) =
    let p = bounded k y a in
    let q = bounded m z b in
    (omega (arith, ints), omega (arith, ints))

le_total : (x y : ℤ) → T (int_le x y) ⊎ T (int_le y x)
le_total x y =
    by_lt_z x y (λ h. let k : x ≤ℤ y = omega (arith, ints) in inl k.le) (λ h. inr h.le)

le_trans : (x y z : ℤ) → x ≤ℤ y → y ≤ℤ z → T (int_le x z)
le_trans x y z p q = let k : x ≤ℤ z = omega (arith, ints) in k.le

le_plus : (x y p : ℤ) → x ≤ℤ y → T (int_le (x +ℤ p) (y +ℤ p))
le_plus x y p h = let k : (x +ℤ p) ≤ℤ (y +ℤ p) = omega (arith, ints) in k.le

-- a number of fewer than 31 bits is its own saturation
in_range : (z : ℤ) → neg_ℤ (pos 1023000000) ≤ℤ z → z ≤ℤ pos 1023000000 → saturate_to_bits 31 z ≡ z
in_range (pos n) low high = ap pos (omega (arith, ints))
in_range (negsuc n) low high = ap negsuc (omega (arith, ints))

sum_in_range : (m n : ℕ) (y z : ℤ) → Bounded m y → Bounded n z → m + n ≤ 1023 → saturate_to_bits 31 (y +ℤ z) ≡ y +ℤ z
sum_in_range m n y z p q few =
    let low : neg_ℤ (pos 1023000000) ≤ℤ (y +ℤ z) = omega (arith, ints) in
    let high : (y +ℤ z) ≤ℤ pos 1023000000 = omega (arith, ints) in
    in_range (y +ℤ z) low high

pub lawful : Laws operations
lawful = record {
  either = λ x y _ _. le_total x.0 y.0;
  transitive = λ x y z _ _ _ p q. le_trans x.0 y.0 z.0 (le_z_yes p) (le_z_yes q);
  swaps = λ m n x y _ _. ap of (omega (arith, ints));
  regroups = λ k m n x y z _ _ _. ap of (omega (arith, ints));
  neutral = λ n x _. ap of (omega (arith, ints));
  zero_budget = tt;
  keeps_order = λ m n x y p _ _ _ h. le_plus x.0 y.0 p.0 (le_z_yes h);
  exact = λ m n x y a b few. ap of (sum_in_range m n x.0 y.0 (bounded m x a) (bounded n y b) few);
}

-- The forms: two's complement in 32 bits.

fits : (z : ℤ) → least32 ≤ℤ z → z ≤ℤ most32 → FitsSigned w32 z
fits (pos n) low high = record { sfits = omega (arith, ints) }
fits (negsuc n) low high = record { sfits = omega (arith, ints) }

bits_below : (z : ℤ) → FitsSigned w32 z → of_z w32 z < 2 ^ 32
bits_below (pos n) f = omega (arith, f.sfits)
bits_below (negsuc n) f = omega (arith, f.sfits)

-- any range within 32 bits
module _ (low high : ℤ) (above : least32 ≤ℤ low) (below : high ≤ℤ most32) where
  fits_within : (x : Bytes) → T (within low high x.0) → FitsSigned w32 x.0
  fits_within x t =
      let p = within_low low high x.0 t in
      let q = within_high low high x.0 t in
      fits x.0 (omega (arith, ints)) (omega (arith, ints))

  tied : Tied (λ x. within low high x.0) (λ x. bytes32 (of_z w32 x.0)) (λ bs. only (λ x. within low high x.0) (of (to_z w32 (number32 bs))))
  tied = record {
    long = λ x. four_bytes (of_z w32 x.0);
    back = λ x t.
        let f = fits_within x t in
        let number = number_of_bytes (of_z w32 x.0) (bits_below x.0 f) in
        ap (λ n. only (λ y. within low high y.0) (of (to_z w32 n))) number
        ∙ ap (λ z. only (λ y. within low high y.0) (of z)) (to_z-of_z w32 x.0 f)
        ∙ only_yes (λ y. within low high y.0) x t;
    sole = λ bs x f e.
        let found = only_some (λ y. within low high y.0) (of (to_z w32 (number32 bs))) x e in (
          subst (λ y. T (within low high y.0)) found.1 found.0,
          ap (λ y. bytes32 (of_z w32 y.0)) (sym found.1) ∙ ap bytes32 (of_z-to_z w32 (number32 bs) (number_below_lem bs f)) ∙ bytes_of_number bs f,
        );
  }

pub storable : Storable operations forms
storable = record {
  prices = tied (neg_ℤ largest) largest (le_z_yes tt) (le_z_yes tt);
  budgets = tied least32 most32 (le_z_yes tt) (le_z_yes tt);
  byte = omega arith;
}
