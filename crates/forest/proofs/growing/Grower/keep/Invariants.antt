use Rattle.std.proofs.Common.{◌≡◌, length}
use Rattle.forest.specs.Growing.{KeptTo}
use Rattle.forest.proofs.growing.Grower.keep.Given as goal

abbrev pub invariant-loop-number : goal.invariant-loop-number
invariant-loop-number l = record { long : length l.self.tree ≡ 2048; kept : KeptTo l.network 0 l.fn.self → KeptTo l.network l.number l.self }
