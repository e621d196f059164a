use Rattle.std.proofs.Common.{◌≡◌, ◌+◌, length, get_or, sym, refl, ap, ◌∙◌, subst, arith}
use Rattle.forest.specs.Readings.{links_of}
use Rattle.spanning.specs.Sets.{held}
use Rattle.forest.specs.Covers.{CoveredTo}
use Rattle.forest.specs.Rooted.{RootedTree, Covering}
use Rattle.forest.specs.Trees.{SpansWithoutRing}
use Rattle.forest.proofs.RootEnds.{bit_taken, bit_left}
use Rattle.forest.proofs.ReplacCover.{covering_none, covering_next, replaced, no_replacement}
use Rattle.forest.proofs.replacing.replacements.Goals as goal
use Rattle.forest.proofs.replacing.replacements.Goals.{then-not-holds, else-not-holds}

pub loop-link-init : goal.loop-link-init
loop-link-init c =
    let n = c.args.tree.now.network.now in
    record {
      network = refl;
      rooted = refl;
      covered = λ tree. covering_none (links_of n) (held c.args.tree.now.bits.now) c.args.order.now c.new.result c.new-2.result.parents (omega (arith, tree.numbered.few, n.few)) c.new-2.ensures.roots;
    }

pub loop-link-preserved : goal.loop-link-preserved
loop-link-preserved c =
    let X = held c.args.tree.now.bits.now in
    let order = c.args.order.now in
    let i = c.loop-link.link-index in
    let l = get_or order i 0 in
    let was = c.loop-link.cover in
    let n = was.network.now in
    let inv = c.loop-link.invariant in
    elim c.if-not-holds.branch [
      | then-not-holds w ↦
          let told = w.cover.ensures in
          record {
            network = ap (λ k. k.network) w.cover-is ∙ told.network ∙ inv.network;
            rooted = ap (λ k. k.rooted) w.cover-is ∙ told.rooted ∙ inv.rooted;
            covered = subst (CoveredTo X order (i + 1)) (sym w.cover-is) (told.covered X order i c.loop-link-test.true refl (bit_left X l l refl (sym w.if-not-holds.ensures)) inv.covered);
          }
      | else-not-holds w ↦
          record {
            network = ap (λ k. k.network) w.cover-is ∙ inv.network;
            rooted = ap (λ k. k.rooted) w.cover-is ∙ inv.rooted;
            covered = subst (CoveredTo X order (i + 1)) (sym w.cover-is) (λ tree. covering_next (links_of n) n.points X order was.rooted tree n.first_below n.second_below i was.parts.parents was.covers (inv.covered tree) (λ a b no-l. absurd (no-l (bit_taken X l l refl (sym w.if-not-holds.ensures)))));
          }
    ]

-- all links of the order are done
covered : (c : goal.After-result-1) → SpansWithoutRing c.args.tree.now.network.now (held c.args.tree.now.bits.now) → RootedTree (links_of c.args.tree.now.network.now) c.args.tree.now.network.now.points (held c.args.tree.now.bits.now) c.new.result × Covering (links_of c.args.tree.now.network.now) (held c.args.tree.now.bits.now) c.args.order.now c.new.result (length c.args.order.now) c.loop-link.cover.parts.parents c.loop-link.cover.covers
covered c spans =
    let inv = c.loop-link.invariant in
    let tree = c.new.ensures spans in
    let left = c.loop-link-test.false in
    let kept = c.loop-link.auto.link-index-end in
    let all : c.loop-link.link-index ≡ length c.args.order.now = omega arith in
    let done = rw (inv.network, inv.rooted) at inv.covered in
    (tree, subst (λ i. Covering (links_of c.args.tree.now.network.now) (held c.args.tree.now.bits.now) c.args.order.now c.new.result i c.loop-link.cover.parts.parents c.loop-link.cover.covers) all (done tree))

pub returns-clause-first : goal.returns-clause-first
returns-clause-first c spans =
    let n = c.args.tree.now.network.now in
    let h = covered c spans in
    replaced (links_of n) n.points (held c.args.tree.now.bits.now) c.args.order.now c.new.result h.0 n.first_below n.second_below c.loop-link.cover.parts.parents c.loop-link.cover.covers h.1

pub returns-clause-outside : goal.returns-clause-outside
returns-clause-outside c spans =
    let n = c.args.tree.now.network.now in
    let h = covered c spans in
    no_replacement (links_of n) n.points (held c.args.tree.now.bits.now) c.args.order.now c.new.result h.0 n.first_below n.second_below c.loop-link.cover.parts.parents c.loop-link.cover.covers h.1
