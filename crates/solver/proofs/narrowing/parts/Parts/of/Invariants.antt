use Rattle.std.proofs.Common.{◌≡◌, ℕ, length}
use Rattle.spanning.specs.Roots.{root_of}
use Rattle.solver.specs.Narrowing.{NumberedTo}
use Rattle.solver.proofs.narrowing.parts.Parts.of.Given as goal

-- no root has changed, and the points so far are numbered
abbrev pub invariant-loop-point : goal.invariant-loop-point
invariant-loop-point l = record { same : (z : ℕ) → root_of l.roots.parents z ≡ root_of l.initial.roots.parents z; long : length l.parts.numbers.items ≡ l.point; numbered : NumberedTo (root_of l.initial.roots.parents) l.point l.parts.numbers.items l.parts.count }
