use Rattle.std.proofs.Common.{◌+◌, ◌-◌, ◌/◌, arith}
use Rattle.spanning.specs.Sets.{held}
use Rattle.ranking.proofs.SwapWalk.{middle_in, halves_answered}
use Rattle.ranking.proofs.totals.walking.Walk.+answer_range.Goals as goal

pub returns-in_default-clause-range : goal.returns-in_default-clause-range
returns-in_default-clause-range g m c =
    let o = g.K.PriceKind.operations in
    let laws = g.met.K.PriceKind.lawful in
    let t = g.L.LinkTable.meaning c.args.self.now.table.now in
    let swaps = c.args.self.now.swaps.now in
    let X = held c.args.self.now.tree.now in
    let low = c.args.numbers.start in
    let high = c.args.numbers.end in
    let middle = low + (high - low) / 2 in
    let inside = middle_in low high (omega arith) (omega arith) in
    halves_answered o laws t X swaps low high c.args.outside c.args.self.now.budget middle inside.0 inside.1 c.add_range-left.result c.add_range-right.result c.args.fits.now c.answer_range.new.fits c.answer_range-in_default.new.fits c.add_range-left.ensures c.add_range-right.ensures
    c.answer_range.ensures.range c.answer_range-in_default.ensures.range c.answer_range-in_default.ensures.rest
