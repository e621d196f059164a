-- Sets of link numbers, as tests.
use Rattle.std.specs.Prelude.{ℕ, zero, suc, ◌+◌, Bool, false, cond, not, ◌&&◌, ◌||◌, List, ◌==◌, slice_index_or}

-- the set with a link, and without it
abbrev pub with_link : (ℕ → Bool) → ℕ → ℕ → Bool
with_link S e k = S k || k == e

abbrev pub without_link : (ℕ → Bool) → ℕ → ℕ → Bool
without_link S e k = S k && not (k == e)

-- how many links below n the set has
abbrev pub count : (ℕ → Bool) → ℕ → ℕ
count P zero = 0
count P (suc n) = cond (P n) 1 0 + count P n

-- the links that a list of bits holds
abbrev pub held : List Bool → ℕ → Bool
held bits k = slice_index_or bits k false
