use Rattle.std.proofs.Common.{◌≡◌, ℕ, ◌<◌}
use Rattle.spanning.specs.Roots.{root_of}
use Rattle.spanning.proofs.components.Components.find.Given as goal

-- no root has changed, and the point reached has the root that is sought
abbrev pub invariant-loop-self : goal.invariant-loop-self
invariant-loop-self l =
    (l.at < 1024)
    × ((z : ℕ) → root_of l.self.parents z ≡ root_of l.initial.self.parents z)
    × (root_of l.initial.self.parents l.at ≡ root_of l.initial.self.parents l.point)

abbrev pub decreases-loop-self : goal.decreases-loop-self
decreases-loop-self l = l.at
