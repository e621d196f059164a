use Rattle.std.proofs.Common.{ℕ, Bool}
use Rattle.spanning.specs.Joined.{NoRing}
use Rattle.spanning.specs.Sets.{held}
use Rattle.forest.specs.Paths.{JoinedByRank, rest_of}
use Rattle.forest.specs.Growing.{FreeInOrder}
use Rattle.forest.specs.Readings.{links_of}
use Rattle.forest.proofs.PathJoins.{ranked_to}
use Rattle.forest.proofs.networks.Tree.join_free.Given as goal

abbrev pub invariant-loop-link : goal.invariant-loop-link
invariant-loop-link l =
    let n = l.self.network.now in
    let X = held l.self.bits.now in
    (before : ℕ → ℕ → Bool) → FreeInOrder n before l.order → NoRing (links_of n) X → JoinedByRank n before (rest_of n X) l.initial.merges → JoinedByRank n before (ranked_to n X l.order l.link-index) l.merges
