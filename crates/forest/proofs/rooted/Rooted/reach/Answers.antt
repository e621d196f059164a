use Rattle.std.proofs.Common.{not, is_some, sym, ap, ◌∙◌, subst}
use Rattle.forest.specs.LinkEnds.{end_of}
use Rattle.forest.specs.Readings.{links_of}
use Rattle.forest.specs.Rooted.{point_at, Between, Placed}
use Rattle.forest.proofs.RootEnds.{ends_between}
use Rattle.forest.proofs.RootWalk.{placed_some, linked_one}
use Rattle.forest.proofs.rooted.Rooted.reach.Goals as goal

pub returns-else-is_none-clause-placed : goal.returns-else-is_none-clause-placed
returns-else-is_none-clause-placed c = subst (Placed c.args.self.now) (c.point-point.ensures ∙ ap (λ e. end_of (links_of c.args.network.now) e c.args.link) c.other.ensures) (placed_some c.args.self.now c.point-point.result (ap is_some (sym c.place.ensures) ∙ c.is_none.ensures ∙ ap not c.if-is_none.false))

pub returns-then-is_none-clause-linked : goal.returns-then-is_none-clause-linked
returns-then-is_none-clause-linked c X own near was =
    let g = links_of c.args.network.now in
    let r = c.args.self.now in
    let end = c.args.end in
    let link = c.args.link in
    let x = c.point-point.result in
    let joins : Between g link x (point_at r c.args.at) = subst (λ b. Between g link x b) near (subst (λ a. Between g link a (end_of g end link)) (sym (c.point-point.ensures ∙ ap (λ e. end_of g e link) c.other.ensures)) (ends_between g end link)) in
    linked_one r x c.add.new.self c.args.at link c.add.ensures c.requires.at g X own joins was
