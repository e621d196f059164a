use Rattle.std.proofs.Common.{ℕ, ◌-◌, ◌<◌, ◌≤◌}
use Rattle.forest.specs.Readings.{links_of}
use Rattle.spanning.specs.Sets.{held}
use Rattle.forest.specs.Rooted.{count_of, Linked, Swept}
use Rattle.forest.proofs.rooted.Rooted.new.Given as goal

-- what is reached from the places before this one has places
abbrev pub invariant-loop-at : goal.invariant-loop-at
invariant-loop-at l = record {
  within : l.at ≤ count_of l.rooted;
  linked : Linked (links_of l.network) (held l.tree) l.rooted;
  swept : (p : ℕ) → p < l.at → Swept (links_of l.network) (held l.tree) l.rooted p;
}

abbrev pub decreases-loop-at : goal.decreases-loop-at
decreases-loop-at l = 1024 - l.at
