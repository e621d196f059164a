-- A table read as a graph with marks, prices and ranks. A number past the links reads as a barred link from point 0 to itself.
use Rattle.std.specs.Prelude.{ℕ, Bool, true, false, not, ◌&&◌, ◌||◌, length, Some, None, Option, nat_lt}
use Rattle.std.specs.List.{slice_get}
use Rattle.price.specs.Kind.{Operations}
use Rattle.spanning.specs.Joined.{Graph}
use Rattle.table.specs.declared.links.Link.{Link}
use Rattle.table.specs.declared.marks.Role.{Role}
use Rattle.table.specs.declared.marks.Role.TheVariants as role
use Rattle.table.specs.Marks.{role_of}
use Rattle.table.specs.Table.{Table}

abbrev pub is_kept : Role → Bool
is_kept role.Free = false
is_kept role.Kept = true
is_kept role.Barred = false

abbrev pub is_free : Role → Bool
is_free role.Free = true
is_free role.Kept = false
is_free role.Barred = false

abbrev pub first_end : {K : Type 0} → Option (Link K) → ℕ
first_end None = 0
first_end (Some l) = l.first

abbrev pub second_end : {K : Type 0} → Option (Link K) → ℕ
second_end None = 0
second_end (Some l) = l.second

abbrev pub role_in : {K : Type 0} → Option (Link K) → Role
role_in None = role.Barred
role_in (Some l) = role_of l.mark

abbrev pub price_in : {K : Type 0} → Operations K → Option (Link K) → K
price_in o None = o.zero
price_in o (Some l) = l.price

-- the ends of each link
abbrev pub ends : {K : Type 0} → Table K → Graph
ends t = record { first = λ k. first_end (slice_get t.links k); second = λ k. second_end (slice_get t.links k) }

-- how many links there are
abbrev pub link_count : {K : Type 0} → Table K → ℕ
link_count t = length t.links

-- the kept links, the free ones, and those that are not barred
abbrev pub kept : {K : Type 0} → Table K → ℕ → Bool
kept t k = is_kept (role_in (slice_get t.links k))

abbrev pub free : {K : Type 0} → Table K → ℕ → Bool
free t k = is_free (role_in (slice_get t.links k))

abbrev pub usable : {K : Type 0} → Table K → ℕ → Bool
usable t k = kept t k || free t k

-- the price of each link
abbrev pub price_of : {K : Type 0} → Operations K → Table K → ℕ → K
price_of o t k = price_in o (slice_get t.links k)

-- a link ranks before another if its price is lower, or if neither price is above the other and its number is smaller
abbrev pub lower : {K : Type 0} → Operations K → K → K → Bool
lower o x y = not (o.not_above y x)

abbrev pub before : {K : Type 0} → Operations K → Table K → ℕ → ℕ → Bool
before o t a b = lower o (price_of o t a) (price_of o t b) || ((o.not_above (price_of o t a) (price_of o t b) && o.not_above (price_of o t b) (price_of o t a)) && nat_lt a b)
