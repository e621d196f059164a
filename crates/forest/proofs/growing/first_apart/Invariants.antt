use Rattle.std.proofs.Common.{◌≡◌, ℕ, ◌<◌}
use Rattle.spanning.specs.Roots.{root_of}
use Rattle.forest.proofs.growing.first_apart.Given as goal

-- no root has changed, and each point so far has root 0
abbrev pub invariant-loop-x : goal.invariant-loop-x
invariant-loop-x l = ((z : ℕ) → root_of l.parts.parents z ≡ root_of l.initial.parts.parents z) × ((z : ℕ) → z < l.x → ◌≡◌ {A = ℕ} (root_of l.initial.parts.parents z) 0)
