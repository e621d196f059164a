-- How far the links of a rooted tree are covered.
use Rattle.std.specs.Prelude.{ℕ, Bool, List}
use Rattle.forest.specs.Readings.{links_of}
use Rattle.forest.specs.Rooted.{RootedTree, Covering}
use Rattle.forest.specs.declared.replacing.Cover.{Cover}

-- if the places are those of a tree, the links of the list before the place i are done
abbrev pub CoveredTo : (ℕ → Bool) → List ℕ → ℕ → Cover → Type 0
CoveredTo X order i c = RootedTree (links_of c.network.now) c.network.now.points X c.rooted → Covering (links_of c.network.now) X order c.rooted i c.parts.parents c.covers
