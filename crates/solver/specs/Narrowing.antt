-- What a narrowing stands for, and when it is the narrowing of its table.
use Rattle.std.specs.Prelude.{◌≡◌, ℕ, ◌<◌, Bool, not, ◌&&◌, List, map, Some, None, Ok, Err, Result, ◌==◌, slice_index}
use Rattle.forest.specs.declared.networks.Network.{Network}
use Rattle.forest.specs.declared.networks.ends.Ends.{Ends}
use Rattle.forest.specs.Networks.{link_at}
use Rattle.price.specs.Kind.{Operations}
use Rattle.spanning.specs.Sets.{count}
use Rattle.table.specs.declared.links.Link.{Link}
use Rattle.table.specs.declared.marks.Mark.TheVariants as mark
use Rattle.table.specs.declared.refusals.PlanFault.{PlanFault}
use Rattle.table.specs.declared.refusals.PlanFault.TheVariants as plan-fault
use Rattle.table.specs.Narrowed.{narrowed, numbers}
use Rattle.table.specs.Narrows.{Narrows}
use Rattle.table.specs.Ranks.{ends, is_free, price_of}
use Rattle.table.specs.Table.{Table}
use Rattle.table.specs.Verdicts.{ring_link}
use Rattle.solver.specs.declared.narrowing.Narrowing.{Narrowing}

-- A link below as a free link between the parts of its ends. A number without a link below reads as one of price zero from the part of point 0 to itself.
abbrev pub relinked : {K : Type 0} → Operations K → List ℕ → Table K → ℕ → Link K
relinked o parts t k = record { first = slice_index parts ((ends t).first k); second = slice_index parts ((ends t).second k); mark = mark.Free; price = price_of o t k }

-- the table that a narrowing stands for, by what the table below stands for
abbrev pub narrowing_table : {K L : Type 0} → Operations K → (L → Table K) → Narrowing K L → Table K
narrowing_table o below n = record {
  points = n.parts.count;
  links = map (relinked o n.parts.numbers.items (below n.table.now)) n.numbers.items;
  carried = n.carried;
}

-- The narrowing of a table whose kept links close no ring: its links are read from the table; it stands for the table's narrowing, and
-- has the numbers below of its links; and the narrowing has its trees, costs, ranks, verdict, findings and supports from the table.
pub record NarrowingOf {K L : Type 0} (o : Operations K) (below : L → Table K) (table : L) (n : Narrowing K L) : Type 0 where
  pub from : n.table.now ≡ table
  pub no_ring : ring_link (below table) ≡ None
  pub meaning : narrowing_table o below n ≡ narrowed o (below table)
  pub numbered : n.numbers.items ≡ numbers (below table)
  pub law : Narrows o (below table)

-- Refused with 61 exactly where kept links close a ring, and else made.
abbrev pub NarrowingMade : {K L : Type 0} → Operations K → (L → Table K) → L → Result (Narrowing K L) PlanFault → Type 0
NarrowingMade o below table (Ok n) = NarrowingOf o below table n
NarrowingMade o below table (Err fault) = (fault ≡ plan-fault.Ring) × (l : ℕ) × (ring_link (below table) ≡ Some l)

-- whether a link is free and between different parts
abbrev pub are_apart : List ℕ → Ends → Bool
are_apart parts link = is_free link.role && not (slice_index parts link.first == slice_index parts link.second)

-- the same of a link of a network, by its number
abbrev pub apart_in : Network → List ℕ → ℕ → Bool
apart_in n parts k = are_apart parts (link_at n.links.items k)

-- a point that is the root of its part
abbrev pub is_root : (ℕ → ℕ) → ℕ → Bool
is_root root x = root x == x

-- The points below m have the numbers of their parts, in the order of the roots, and the next number is the count of these.
pub record NumberedTo (root : ℕ → ℕ) (m : ℕ) (parts : List ℕ) (next : ℕ) : Type 0 where
  pub part : (z : ℕ) → z < m → slice_index parts z ≡ count (is_root root) (root z)
  pub counted : next ≡ count (is_root root) m
