use Rattle.std.proofs.Common.{◌≡◌, ℕ, Bool, length}
use Rattle.forest.specs.Growing.{FreeInOrder, GrownTo, ring_of}
use Rattle.forest.proofs.growing.grow.Given as goal

abbrev pub invariant-loop-link : goal.invariant-loop-link
invariant-loop-link l = record {
  long : length l.grower.tree ≡ 2048;
  ring : l.grower.ring ≡ ring_of l.network;
  grown : (before : ℕ → ℕ → Bool) → FreeInOrder l.network before l.order → GrownTo l.network l.order before l.link-index l.grower;
}
