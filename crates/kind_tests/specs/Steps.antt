-- The kind `steps`: even counts and tags. Both add up; only counts are compared.
use Rattle.std.specs.Prelude.{ℕ, ◌+◌, ◌-◌, ◌%◌, ◌^◌, min, Bool, cond, ◌&&◌, ◌==◌, nat_le}
use Rattle.price.specs.Kind.{Operations}
use Rattle.kind_tests.specs.declared.steps.Steps.{Steps}

-- the largest count of a price, and its largest tag
abbrev pub most_steps : ℕ
most_steps = 200

abbrev pub largest_tag : ℕ
largest_tag = 255

abbrev pub of : ℕ → ℕ → Steps
of count tag = record { count = count; tag = tag }

abbrev pub even : ℕ → Bool
even n = n % 2 == 0

-- the nearest 32-bit number
abbrev pub nearest : ℕ → ℕ
nearest n = min n (2 ^ 32 - 1)

-- an odd count is above all counts, itself too, and what is added to it is lost
abbrev pub operations : Operations Steps
operations = record {
  zero = of 0 0;
  plus = λ x y. cond (even x.count) (of (x.count + y.count) (x.tag + y.tag)) x;
  added = λ x y. cond (even x.count) (of (nearest (x.count + y.count)) (nearest (x.tag + y.tag))) x;
  not_above = λ x y. even x.count && nat_le x.count y.count;
  price = λ x. (even x.count && nat_le x.count most_steps) && nat_le x.tag largest_tag;
  budget = λ x. even x.count;
}
