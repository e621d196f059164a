use Rattle.std.proofs.Common.{◌≡◌, ◌+◌, ◌<◌, not, T, eqb, length, get_or, sym, refl, ap, ◌∙◌, subst, arith, rules}
use Rattle.spanning.specs.Roots.{root_of}
use Rattle.forest.specs.Growing.{GrownTo}
use Rattle.forest.specs.Readings.{links_of}
use Rattle.forest.proofs.GrowOrder.{grown_none, grown_in, grown_out, grown_tree, grown_parts}
use Rattle.forest.proofs.GrowSteps.{apart_below, kept_none}
use Rattle.forest.proofs.growing.grow.Goals as goal
use Rattle.forest.proofs.growing.grow.Goals.{then-join, else-join}

pub loop-link-init : goal.loop-link-init
loop-link-init c =
    let kept = c.keep.ensures.kept (kept_none c.args.network.now _ (c.new.ensures.represents (links_of c.args.network.now)) refl refl) in
    record {
      long = search rules;
      ring = kept.closed;
      grown = λ before listed. grown_none c.args.network.now c.args.order.now before c.keep.new.self kept;
    }

pub loop-link-preserved : goal.loop-link-preserved
loop-link-preserved c =
    let n = c.args.network.now in
    let order = c.args.order.now in
    let i = c.loop-link.link-index in
    let g = c.loop-link.grower in
    let link = c.link-ends.result in
    let inv = c.loop-link.invariant in
    elim c.if-join.branch [
      | then-join w ↦
          let fresh : T (not (eqb (root_of g.parts.parents link.first) (root_of g.parts.parents link.second))) = subst T (sym w.if-join.true ∙ c.join.ensures.value) tt in
          let room : get_or order i 0 < length g.tree = let low = apart_below n (get_or order i 0) link g.parts.parents c.link-ends.ensures fresh in omega arith in
          record {
            long = search rules;
            ring = ap (λ h. h.ring) w.grower-is ∙ inv.ring;
            grown = λ before listed. subst (GrownTo n order before (i + 1)) (sym w.grower-is) (grown_in n order before listed i g _ link (omega arith) c.link-ends.ensures c.join.ensures.represents (inv.grown before listed) room fresh refl);
          }
      | else-join w ↦
          let stale : T (not (eqb (root_of g.parts.parents link.first) (root_of g.parts.parents link.second))) → ⊥ = λ u. subst T (sym (sym w.if-join.false ∙ c.join.ensures.value)) u in
          record {
            long = search rules;
            ring = ap (λ h. h.ring) w.grower-is ∙ inv.ring;
            grown = λ before listed. subst (GrownTo n order before (i + 1)) (sym w.grower-is) (grown_out n order before listed i g _ link (omega arith) c.link-ends.ensures c.join.ensures.represents (inv.grown before listed) stale refl);
          }
    ]

pub returns-clause-tree : goal.returns-clause-tree
returns-clause-tree c = λ before listed.
    let order = c.args.order.now in
    let whole : c.loop-link.link-index ≡ length order = omega arith in
    grown_tree c.args.network.now order before listed c.loop-link.grower (subst (λ i. GrownTo c.args.network.now order before i c.loop-link.grower) whole (c.loop-link.invariant.grown before listed))

pub returns-clause-cut : goal.returns-clause-cut
returns-clause-cut c = λ before listed.
    let order = c.args.order.now in
    let whole : c.loop-link.link-index ≡ length order = omega arith in
    c.first_apart-cut.ensures (grown_parts c.args.network.now order before listed c.loop-link.grower (subst (λ i. GrownTo c.args.network.now order before i c.loop-link.grower) whole (c.loop-link.invariant.grown before listed)))
