use Rattle.std.proofs.Common.{◌≡◌, ◌<◌}
use Rattle.forest.specs.Merges.{hang_of, join_count, root_after}
use Rattle.forest.proofs.MergeRoots.{to_go}
use Rattle.forest.proofs.merges.Merges.root.Given as goal

-- the point reached has the root that is sought
abbrev pub invariant-loop-hang : goal.invariant-loop-hang
invariant-loop-hang l = record {
  within : l.at < 1024;
  one_root : root_after (hang_of l.self) (join_count l.self) l.at ≡ root_after (hang_of l.self) (join_count l.self) l.point;
}

abbrev pub decreases-loop-hang : goal.decreases-loop-hang
decreases-loop-hang l = to_go (join_count l.self) (hang_of l.self l.at)
