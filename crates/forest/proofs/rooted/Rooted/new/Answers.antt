use Rattle.std.proofs.Common.{◌<◌, ◌≤◌, arith}
use Rattle.forest.specs.Readings.{links_of}
use Rattle.spanning.specs.Sets.{held}
use Rattle.forest.specs.Rooted.{count_of}
use Rattle.forest.proofs.RootSweep.{swept_more}
use Rattle.forest.proofs.RootedTrees.{rooted_tree}
use Rattle.forest.proofs.rooted.Rooted.new.Goals as goal

pub loop-at-preserved : goal.loop-at-preserved
loop-at-preserved c =
    let r = c.loop-at.rooted in
    let s = c.sweep_both.new.self in
    let at = c.loop-at.at in
    let inv = c.loop-at.invariant in
    let less : at < count_of r = omega arith in
    let told = c.sweep_both.ensures in
    let more = told.grown.more in
    let swept = rw (c.new-links.ensures.network, c.new-links.ensures.tree) at told.swept in
    record {
      within = omega arith;
      linked = rw (c.new-links.ensures.network, c.new-links.ensures.tree) at told.linked;
      swept = swept_more (links_of c.args.network.now) (held c.args.tree.now) r s at less told.grown inv.swept swept;
    }

pub returns : goal.returns
returns c tree =
    let n = c.args.network.now in
    let r = c.loop-at.rooted in
    let inv = c.loop-at.invariant in
    let most = inv.within in
    let done : count_of r ≤ c.loop-at.at = omega arith in
    rooted_tree (links_of n) n.points (held c.args.tree.now) r inv.linked (λ p l. inv.swept p (omega arith)) n.first_below n.second_below tree.joins_all n.some tree.no_ring
