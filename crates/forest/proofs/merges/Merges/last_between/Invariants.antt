use Rattle.std.proofs.Common.{◌+◌, ◌<◌}
use Rattle.forest.specs.Merges.{hang_of, join_count}
use Rattle.forest.proofs.MergeRoots.{to_go}
use Rattle.forest.proofs.MergeWalks.{Climbed}
use Rattle.forest.proofs.merges.Merges.last_between.Given as goal

abbrev pub invariant-loop-a : goal.invariant-loop-a
invariant-loop-a l = record {
  climbed : Climbed (hang_of l.self) (join_count l.self) l.first l.second l.a l.b l.last;
  within : l.a < 1024;
  other_within : l.b < 1024;
}

abbrev pub decreases-loop-a : goal.decreases-loop-a
decreases-loop-a l =
    to_go (join_count l.self) (hang_of l.self l.a) + to_go (join_count l.self) (hang_of l.self l.b)
