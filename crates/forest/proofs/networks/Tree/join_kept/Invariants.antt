use Rattle.std.proofs.Common.{ℕ, Bool}
use Rattle.spanning.specs.Joined.{NoRing}
use Rattle.spanning.specs.Sets.{held}
use Rattle.forest.specs.Paths.{JoinedByRank}
use Rattle.forest.specs.Readings.{links_of}
use Rattle.forest.proofs.PathJoins.{rest_below}
use Rattle.forest.proofs.networks.Tree.join_kept.Given as goal

abbrev pub invariant-loop-link : goal.invariant-loop-link
invariant-loop-link l =
    let n = l.self.network.now in
    let X = held l.self.bits.now in
    (before : ℕ → ℕ → Bool) → NoRing (links_of n) X → JoinedByRank n before (rest_below n X l.link) l.merges
