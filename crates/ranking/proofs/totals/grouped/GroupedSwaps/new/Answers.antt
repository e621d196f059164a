use Rattle.std.proofs.Common.{◌+◌, ◌∙◌, sym, subst}
use Rattle.groups.specs.Groups.{GroupedTo}
use Rattle.groups.proofs.Putting.{grouped_none}
use Rattle.ranking.specs.Totals.{goes}
use Rattle.ranking.proofs.SwapGroups.{next_grouped, next_alone}
use Rattle.ranking.proofs.totals.grouped.GroupedSwaps.new.Goals as goal
use Rattle.ranking.proofs.totals.grouped.GroupedSwaps.new.Goals.{in-Some, in_default}

pub loop-number-init : goal.loop-number-init
loop-number-init c = subst (GroupedTo 2048 (goes c.args.swaps.now) 0) (sym c.new-groups.ensures) (grouped_none 2048 2048 (goes c.args.swaps.now))

pub loop-number-preserved : goal.loop-number-preserved
loop-number-preserved c = elim c.match-swap.branch [
  | in-Some w ↦ let h = next_grouped c.args.swaps.now c.loop-number.number w.in-Some.swap c.loop-number.groups c.loop-number-test.true w.in-Some.is c.loop-number.invariant in subst (GroupedTo 2048 (goes c.args.swaps.now) (c.loop-number.number + 1)) (sym w.put.ensures ∙ sym w.groups-is) h
  | in_default w ↦ subst (GroupedTo 2048 (goes c.args.swaps.now) (c.loop-number.number + 1)) (sym w.groups-is) (next_alone c.args.swaps.now c.loop-number.number c.loop-number.groups w.in_default.is c.loop-number.invariant)
]
