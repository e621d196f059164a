-- A table with its links ordered and its tree grown.
use Rattle.std.specs.Prelude.{◌≡◌, ℕ}
use Rattle.price.specs.Kind.{Operations}
use Rattle.spanning.specs.Sets.{held}
use Rattle.spanning.specs.Trees.{Ordered}
use Rattle.table.specs.Ranks.{free, before}
use Rattle.table.specs.Table.{Table}
use Rattle.table.specs.Trees.{shown}
use Rattle.table.specs.Verdicts.{ring_link, cut_point}
use Rattle.forest.specs.Readings.{Reads}
use Rattle.solver.specs.declared.solving.Solution.{Solution}

-- the links by rank, the ends and roles, the tree shown, the ring's link and the cut's point are those of the table
pub record Solves {K : Type 0} (o : Operations K) (t : Table K) (s : Solution) : Type 0 where
  pub ordered : Ordered (free t) (before o t) s.order
  pub reads : Reads t s.network
  pub tree : (k : ℕ) → held s.growth.tree k ≡ shown o t k
  pub ring : s.growth.ring ≡ ring_link t
  pub cut : s.growth.cut ≡ cut_point t
