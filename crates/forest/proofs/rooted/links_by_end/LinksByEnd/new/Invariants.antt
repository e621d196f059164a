use Rattle.groups.specs.Groups.{GroupedTo}
use Rattle.spanning.specs.Sets.{held}
use Rattle.forest.specs.Readings.{links_of}
use Rattle.forest.specs.LinkEnds.{with_end}
use Rattle.forest.specs.declared.rooted.links_by_end.ends.End.TheVariants.{First, Second}
use Rattle.forest.proofs.rooted.links_by_end.LinksByEnd.new.Given as goal

abbrev pub invariant-loop-link : goal.invariant-loop-link
invariant-loop-link l = record {
  by_first : GroupedTo 1024 (with_end (links_of l.network) (held l.tree) First) l.link l.firsts;
  by_second : GroupedTo 1024 (with_end (links_of l.network) (held l.tree) Second) l.link l.seconds;
}
