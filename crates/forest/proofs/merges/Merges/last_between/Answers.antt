use Rattle.std.proofs.Common.{inr, arith}
use Rattle.forest.proofs.MergeLast.{none_past, passed, not_joined, falls, parent_within, last_join}
use Rattle.forest.proofs.merges.Merges.last_between.Goals as goal
use Rattle.forest.proofs.merges.Merges.last_between.Goals.{then-first-ge-POINTS-via-then-first-ge-POINTS, then-first-ge-POINTS-via-else-first-ge-POINTS+then-second-ge-POINTS}

pub returns-then-first-ge-POINTS : goal.returns-then-first-ge-POINTS
returns-then-first-ge-POINTS c = λ g told.
    elim c.then-first-ge-POINTS.branch [
      | then-first-ge-POINTS-via-then-first-ge-POINTS w ↦ none_past c.args.self.now g told c.args.first c.args.second (λ within. omega (arith, within.0, w.if-first-ge-POINTS.true))
      | then-first-ge-POINTS-via-else-first-ge-POINTS+then-second-ge-POINTS w ↦ none_past c.args.self.now g told c.args.first c.args.second (λ within. omega (arith, within.1, w.if-second-ge-POINTS.true))
    ]

pub returns-in_err-hang : goal.returns-in_err-hang
returns-in_err-hang c = λ g told.
    let m = c.args.self.now in
    let p = c.first_hung-found in
    let apart = not_joined m c.args.first c.args.second c.loop-a.a c.loop-a.b c.loop-a.last c.loop-a.invariant.climbed c.loop-a-test.true p.result.0 p.result.1 p.ensures.both p.ensures.order g told c.if-first-ge-POINTS.false c.if-second-ge-POINTS.false c.in_err-hang.was in
    rw c.from_residual.ensures (inr apart)

pub loop-a-smaller : goal.loop-a-smaller
loop-a-smaller c =
    let p = c.first_hung-found in
    falls c.args.self.now c.args.first c.args.second c.loop-a.a c.loop-a.b c.loop-a.last c.loop-a.invariant.climbed c.loop-a-test.true p.result.0 p.result.1 p.ensures.both p.ensures.order c.in_ok-hang.hang c.in_ok-hang.was

pub loop-a-preserved : goal.loop-a-preserved
loop-a-preserved c =
    let m = c.args.self.now in
    let p = c.first_hung-found in
    let inv = c.loop-a.invariant in
    let h = c.in_ok-hang.hang in
    record {
      climbed = passed m c.args.first c.args.second c.loop-a.a c.loop-a.b c.loop-a.last inv.climbed c.loop-a-test.true p.result.0 p.result.1 p.ensures.both p.ensures.order h c.in_ok-hang.was;
      within = parent_within m c.args.first c.args.second c.loop-a.a c.loop-a.b c.loop-a.last inv.climbed c.loop-a-test.true p.result.0 p.result.1 p.ensures.both p.ensures.order h c.in_ok-hang.was;
      other_within = p.ensures.within;
    }

pub returns : goal.returns
returns c = λ g told.
    let m = c.args.self.now in
    let t = c.in_ok-last.field-0 in
    let reached = rw c.in_ok-last.was at c.loop-a.invariant.climbed in
    let last = last_join m c.args.first c.args.second c.loop-a.a c.loop-a.b t reached g told c.if-first-ge-POINTS.false c.if-second-ge-POINTS.false c.loop-a-test.false in
    rw c.deref.ensures.0 last
