use Rattle.std.proofs.Common.{◌∙◌, ap, arith}
use Rattle.std.proofs.lemmas.List.{length-set}
use Rattle.groups.proofs.Walks.{those_turn, end_has, end_only}
use Rattle.ranking.specs.Totals.{goes, fits_in}
use Rattle.ranking.proofs.SwapGroups.{answered_next, others_next, goes_below}
use Rattle.ranking.proofs.totals.walking.Walk.answer_group.Goals as goal

pub bounds-fits-number : goal.bounds-fits-number
bounds-fits-number g c = (those_turn (goes c.args.self.now.swaps.now c.args.gone) 2048 c.of-number-items.result c.into_iter-number-iterator.result c.into_iter-number-iterator.ensures.into_iter_gives c.of-number-items.ensures.all c.loop-number.yielded c.loop-number.number-iterator c.loop-number.yielded_by c.next.result c.next.new.self c.next.ensures.steps c.in-Some.number c.in-Some.is).0

pub loop-number-preserved : goal.loop-number-preserved
loop-number-preserved g c =
    let swaps = c.args.self.now.swaps.now in
    let answer = fits_in g.K.PriceKind.operations (g.L.LinkTable.meaning c.args.self.now.table.now) c.args.stays c.args.self.now.budget in
    let inside = (those_turn (goes c.args.self.now.swaps.now c.args.gone) 2048 c.of-number-items.result c.into_iter-number-iterator.result c.into_iter-number-iterator.ensures.into_iter_gives c.of-number-items.ensures.all c.loop-number.yielded c.loop-number.number-iterator c.loop-number.yielded_by c.next.result c.next.new.self c.next.ensures.steps c.in-Some.number c.in-Some.is).0 in
    record {
      long = length-set c.loop-number.fits c.in-Some.number c.fits_in.result ∙ c.loop-number.invariant.long;
      done = answered_next swaps answer c.args.fits.now c.loop-number.yielded c.loop-number.fits c.in-Some.number (omega (arith, inside, c.loop-number.invariant.long)) c.fits_in.result c.loop-number.invariant.done (c.fits_in.ensures ∙ ap answer c.swap.ensures);
      rest = others_next swaps answer c.args.fits.now c.loop-number.yielded c.loop-number.fits c.in-Some.number (omega (arith, inside, c.loop-number.invariant.long)) c.fits_in.result c.loop-number.invariant.rest;
    }

pub returns-clause-group : goal.returns-clause-group
returns-clause-group g c = λ e t. c.loop-number.invariant.done e (end_has (goes c.args.self.now.swaps.now c.args.gone) 2048 c.of-number-items.result c.into_iter-number-iterator.result c.into_iter-number-iterator.ensures.into_iter_gives c.of-number-items.ensures.all c.loop-number.yielded c.loop-number.number-iterator c.loop-number.yielded_by c.next.result c.next.new.self c.next.ensures.steps c.in-None.is e (goes_below c.args.self.now.swaps.now c.of-number-items.ensures.links c.args.gone e t) t)

pub returns-clause-rest : goal.returns-clause-rest
returns-clause-rest g c = λ e out. c.loop-number.invariant.rest e (λ has. out (end_only (goes c.args.self.now.swaps.now c.args.gone) 2048 c.of-number-items.result c.into_iter-number-iterator.result c.into_iter-number-iterator.ensures.into_iter_gives c.of-number-items.ensures.all c.loop-number.yielded c.loop-number.number-iterator c.loop-number.yielded_by c.next.result c.next.new.self c.next.ensures.steps c.in-None.is e has).1)
