-- Trees of a network.
use Rattle.std.specs.Prelude.{ℕ, ◌<◌, Bool}
use Rattle.spanning.specs.Joined.{Joined, NoRing}
use Rattle.forest.specs.declared.networks.Network.{Network}
use Rattle.forest.specs.Readings.{links_of}

-- the links of X join all points, and have no ring
pub record SpansWithoutRing (n : Network) (X : ℕ → Bool) : Type 0 where
  pub joins_all : (x : ℕ) → x < n.points → Joined (links_of n) X 0 x
  pub no_ring : NoRing (links_of n) X
