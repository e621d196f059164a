use Rattle.std.proofs.Common.{ℕ, ◌<◌, get_or}
use Rattle.std.specs.Fn.{FnReturnsAt}
use Rattle.solver.proofs.writing.write_each.Given as goal

-- the places so far are written
abbrev pub invariant-loop-number : goal.invariant-loop-number
invariant-loop-number g l = (k : ℕ) (d : _) (e : _) → k < l.number → FnReturnsAt g.F.Fn l.told (get_or l.items k e) (get_or l.out k d)
