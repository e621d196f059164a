use Rattle.std.proofs.Common.{◌≡◌}
use Rattle.spanning.specs.Sets.{held}
use Rattle.forest.specs.Covers.{CoveredTo}
use Rattle.forest.proofs.replacing.replacements.Given as goal

abbrev pub invariant-loop-link : goal.invariant-loop-link
invariant-loop-link l = record {
  network : l.cover.network ≡ l.initial.cover.network;
  rooted : l.cover.rooted ≡ l.initial.cover.rooted;
  covered : CoveredTo (held l.tree.bits.now) l.order l.link-index l.cover;
}
