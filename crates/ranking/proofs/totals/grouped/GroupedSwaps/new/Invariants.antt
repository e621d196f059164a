use Rattle.groups.specs.Groups.{GroupedTo}
use Rattle.ranking.specs.Totals.{goes}
use Rattle.ranking.proofs.totals.grouped.GroupedSwaps.new.Given as goal

-- the links so far are in their groups
abbrev pub invariant-loop-number : goal.invariant-loop-number
invariant-loop-number l = GroupedTo 2048 (goes l.swaps) l.number l.groups
