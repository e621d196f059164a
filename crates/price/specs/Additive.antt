-- The kind `bytes`: whole prices, negative for a link that saves bytes; a total is the sum.
use Rattle.std.specs.Prelude.{Bool, ◌&&◌, ℤ, pos, ◌+ℤ◌, neg_ℤ, int_le}
use Rattle.std.specs.Int.{saturate_to_bits, w32}
use Rattle.std.proofs.Common.{to_z, of_z}
use Rattle.price.specs.Kind.{Operations}
use Rattle.price.specs.Forms.{Forms, number32, bytes32, only}
use Rattle.price.specs.declared.additive.Bytes.{Bytes}

-- the largest price; the smallest is its negative
abbrev pub largest : ℤ
largest = pos 1000000

-- budgets are the signed 32-bit numbers
abbrev pub least32 : ℤ
least32 = neg_ℤ (pos 2147483648)

abbrev pub most32 : ℤ
most32 = pos 2147483647

abbrev pub within : ℤ → ℤ → ℤ → Bool
within low high z = int_le low z && int_le z high

abbrev pub of : ℤ → Bytes
of z = record { 0 = z }

abbrev pub operations : Operations Bytes
operations = record {
  zero = of (pos 0);
  plus = λ x y. of (x.0 +ℤ y.0);
  added = λ x y. of (saturate_to_bits 31 (x.0 +ℤ y.0));
  not_above = λ x y. int_le x.0 y.0;
  price = λ x. within (neg_ℤ largest) largest x.0;
  budget = λ x. within least32 most32 x.0;
}

-- code 1; two's complement: below 2 ^ 31 a number of 32 bits stands for itself, and from there on for 2 ^ 32 less (`to_z`, and back by `of_z`)
abbrev pub forms : Forms Bytes
forms = record {
  code = 1;
  price_form = λ x. bytes32 (of_z w32 x.0);
  price_of = λ bs. only operations.price (of (to_z w32 (number32 bs)));
  budget_form = λ x. bytes32 (of_z w32 x.0);
  budget_of = λ bs. only operations.budget (of (to_z w32 (number32 bs)));
}
