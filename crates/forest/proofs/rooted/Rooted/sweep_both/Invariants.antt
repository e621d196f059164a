use Rattle.std.proofs.Common.{◌≡◌, ℕ, ◌<◌, T, get_or}
use Rattle.forest.specs.Readings.{links_of}
use Rattle.spanning.specs.Sets.{held}
use Rattle.forest.specs.LinkEnds.{end_of, other}
use Rattle.forest.specs.declared.rooted.links_by_end.ends.End.TheVariants.{First}
use Rattle.forest.specs.Rooted.{point_at, Linked, Placed, Grown}
use Rattle.forest.proofs.rooted.Rooted.sweep_both.Given as goal

-- the links by the ends so far are swept
abbrev pub invariant-loop-end : goal.invariant-loop-end
invariant-loop-end l = record {
  grown : Grown l.initial.self l.self;
  linked : Linked (links_of l.links.network.now) (held l.links.tree.now) l.self;
  swept : (i e : ℕ) → i < l.end-index → T (held l.links.tree.now e) → end_of (links_of l.links.network.now) (get_or l.end-items i First) e ≡ point_at l.self l.at → Placed l.self (end_of (links_of l.links.network.now) (other (get_or l.end-items i First)) e);
}
