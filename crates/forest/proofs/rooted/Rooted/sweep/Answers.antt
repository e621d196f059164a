use Rattle.std.proofs.Common.{◌≡◌, T, Contains, sym, ap, ◌∙◌, subst}
use Rattle.groups.proofs.Walks.{walk_turn, walk_end}
use Rattle.spanning.specs.Sets.{held}
use Rattle.forest.specs.LinkEnds.{end_of, other, with_end}
use Rattle.forest.specs.Places.{point_in}
use Rattle.forest.specs.Readings.{links_of}
use Rattle.forest.specs.Rooted.{point_at}
use Rattle.forest.proofs.RootEnds.{held_within}
use Rattle.forest.proofs.RootLinks.{with_it, own_link, own_end}
use Rattle.forest.proofs.RootSweep.{grown_then, reached_more}
use Rattle.forest.proofs.rooted.Rooted.sweep.Goals as goal

-- the link of a turn is one of the tree's, and has the point of the place at this end
turn : (c : goal.After-reach-arg-1) → T (held c.args.links.now.tree.now c.in-Some.link) × (end_of (links_of c.args.links.now.network.now) c.args.end c.in-Some.link ≡ point_at c.args.self.now c.args.at)
turn c =
    let g = links_of c.args.links.now.network.now in
    let X = held c.args.links.now.tree.now in
    let e = c.in-Some.link in
    let x = point_in c.deref.result.now c.args.at in
    let has = walk_turn c.at-link-items.result c.into_iter-link-iterator.result c.into_iter-link-iterator.ensures.into_iter_gives c.loop-link.yielded c.loop-link.link-iterator c.loop-link.yielded_by c.next.result c.next.new.self c.next.ensures.steps e c.in-Some.is in
    let t = (c.at-link-items.ensures e).0 has in
    (own_link g X c.args.end x e t, own_end g X c.args.end x e t ∙ ap (λ o. point_in o c.args.at) c.deref.ensures.0)

pub reach-requires-clause-link : goal.reach-requires-clause-link
reach-requires-clause-link c = held_within c.args.links.now.tree.now 2048 c.in-Some.link c.args.links.now.long (turn c).0

pub loop-link-preserved : goal.loop-link-preserved
loop-link-preserved c =
    let r = c.loop-link.self in
    let s = c.reach.new.self in
    let inv = c.loop-link.invariant in
    let told = c.reach.ensures in
    let t = turn c.before in
    record {
      grown = grown_then c.args.self.now r s inv.grown told.grown;
      linked = told.linked (held c.args.links.now.tree.now) t.0 (t.1 ∙ sym (inv.grown.kept c.args.at c.requires.at)) inv.linked;
      reached = reached_more (links_of c.args.links.now.network.now) (other c.args.end) r s told.grown c.loop-link.yielded c.in-Some.link inv.reached told.placed;
    }

pub returns-clause-swept : goal.returns-clause-swept
returns-clause-swept c e own near =
    let g = links_of c.args.links.now.network.now in
    let X = held c.args.links.now.tree.now in
    let x = point_in c.deref.result.now c.args.at in
    let here : end_of g c.args.end e ≡ x = near ∙ sym (ap (λ o. point_in o c.args.at) c.deref.ensures.0) in
    let has = (c.at-link-items.ensures e).1 (subst (λ k. T (with_end g X c.args.end k e)) here (with_it g X c.args.end e own)) in
    let all = walk_end c.at-link-items.result c.into_iter-link-iterator.result c.into_iter-link-iterator.ensures.into_iter_gives c.loop-link.yielded c.loop-link.link-iterator c.loop-link.yielded_by c.next.result c.next.new.self c.next.ensures.steps c.in-None.is in
    c.loop-link.invariant.reached e (subst (λ xs. Contains xs e) (sym all) has)
