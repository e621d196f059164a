-- The narrowing of a table: its points are the parts that kept links join, and its links the free links between different parts.
use Rattle.std.specs.Prelude.{ℕ, zero, suc, Bool, cond, not, ◌&&◌, ◌||◌, List, [], ◌∷◌, ◌++◌, map, ◌==◌, slice_index_or}
use Rattle.price.specs.Kind.{Operations}
use Rattle.spanning.specs.Closure.{label_of}
use Rattle.spanning.specs.Sets.{count}
use Rattle.table.specs.declared.links.Link.{Link}
use Rattle.table.specs.declared.marks.Mark.TheVariants as mark
use Rattle.table.specs.Ranks.{ends, link_count, kept, free, price_of}
use Rattle.table.specs.Table.{Table}
use Rattle.table.specs.Trees.{cost_of, is_spanned}

-- the lowest point of a point's part
abbrev pub lowest_of : {K : Type 0} → Table K → ℕ → ℕ
lowest_of t x = label_of (ends t) (link_count t) (kept t) x

abbrev pub is_lowest : {K : Type 0} → Table K → ℕ → Bool
is_lowest t x = lowest_of t x == x

-- parts are numbered in the order of their lowest points
abbrev pub part_of : {K : Type 0} → Table K → ℕ → ℕ
part_of t x = count (is_lowest t) (lowest_of t x)

-- the free links between different parts
abbrev pub between : {K : Type 0} → Table K → ℕ → Bool
between t k = free t k && not (is_spanned t (kept t) k)

-- the numbers below n that pass a test, in rising order
abbrev pub numbers_of : ℕ → (ℕ → Bool) → List ℕ
numbers_of zero P = []
numbers_of (suc n) P = numbers_of n P ++ cond (P n) (n ∷ []) []

-- a link of the narrowing: its ends are the parts of the ends below
abbrev pub narrowed_link : {K : Type 0} → Operations K → Table K → ℕ → Link K
narrowed_link o t k = record { first = part_of t ((ends t).first k); second = part_of t ((ends t).second k); mark = mark.Free; price = price_of o t k }

-- the numbers below of the narrowing's links
abbrev pub numbers : {K : Type 0} → Table K → List ℕ
numbers t = numbers_of (link_count t) (between t)

abbrev pub narrowed : {K : Type 0} → Operations K → Table K → Table K
narrowed o t = record { points = count (is_lowest t) t.points; links = map (narrowed_link o t) (numbers t); carried = cost_of o t (kept t) }

-- the number below of one link, and past the links one that is no link's below either
abbrev pub number_below : {K : Type 0} → Table K → ℕ → ℕ
number_below t i = slice_index_or (numbers t) i (link_count t)

-- the lowest point of a part
abbrev pub point_below : {K : Type 0} → Table K → ℕ → ℕ
point_below t p = slice_index_or (numbers_of t.points (is_lowest t)) p t.points

-- a set of the narrowing's links, seen below: with the kept links
abbrev pub lowered : {K : Type 0} → Table K → (ℕ → Bool) → ℕ → Bool
lowered t X k = kept t k || (between t k && X (count (between t) k))

-- a set of links, seen above
abbrev pub lifted : {K : Type 0} → Table K → (ℕ → Bool) → ℕ → Bool
lifted t Y i = Y (number_below t i)
