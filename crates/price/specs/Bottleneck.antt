-- The kind `drift`: prices in sixty-fourths of a pixel; a total is the largest price, zero if there is none.
use Rattle.std.specs.Prelude.{ℕ, max, Bool, nat_le}
use Rattle.price.specs.Kind.{Operations}
use Rattle.price.specs.Forms.{Forms, number32, bytes32, only}
use Rattle.price.specs.declared.bottleneck.Drift.{Drift}

-- the largest price
abbrev pub largest : ℕ
largest = 65535

-- the largest budget
abbrev pub largest_budget : ℕ
largest_budget = 65535

abbrev pub of : ℕ → Drift
of n = record { 0 = n }

-- at most so much
abbrev pub within : ℕ → Drift → Bool
within high x = nat_le x.0 high

abbrev pub operations : Operations Drift
operations = record {
  zero = of 0;
  plus = λ x y. of (max x.0 y.0);
  added = λ x y. of (max x.0 y.0);
  not_above = λ x y. nat_le x.0 y.0;
  price = within largest;
  budget = within largest_budget;
}

-- code 2; unsigned
abbrev pub forms : Forms Drift
forms = record {
  code = 2;
  price_form = λ x. bytes32 x.0;
  price_of = λ bs. only (within largest) (of (number32 bs));
  budget_form = λ x. bytes32 x.0;
  budget_of = λ bs. only (within largest_budget) (of (number32 bs));
}
