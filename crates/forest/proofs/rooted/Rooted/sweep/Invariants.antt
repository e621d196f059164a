use Rattle.std.proofs.Common.{ℕ, Contains}
use Rattle.forest.specs.Readings.{links_of}
use Rattle.spanning.specs.Sets.{held}
use Rattle.forest.specs.LinkEnds.{end_of, other}
use Rattle.forest.specs.Rooted.{Linked, Placed, Grown}
use Rattle.forest.proofs.rooted.Rooted.sweep.Given as goal

-- the points at the other ends of the links so far have places
abbrev pub invariant-loop-link : goal.invariant-loop-link
invariant-loop-link l = record {
  grown : Grown l.initial.self l.self;
  linked : Linked (links_of l.links.network.now) (held l.links.tree.now) l.self;
  reached : (e : ℕ) → Contains l.yielded e → Placed l.self (end_of (links_of l.links.network.now) (other l.end) e);
}
