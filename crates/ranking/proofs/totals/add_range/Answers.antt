use Rattle.std.proofs.Common.{◌-◌, ◌∙◌, rules, refl, tests}
use Rattle.std.proofs.lemmas.Iterator.{YieldsList-from_range}
use Rattle.std.proofs.lemmas.Iterator.Consumers.{YieldsList-from_filter, fold_from_yields_List}
use Rattle.table.specs.Ranks.{price_of}
use Rattle.spanning.specs.Sets.{held}
use Rattle.ranking.proofs.TotalSums.{added_range}
use Rattle.ranking.proofs.totals.add_range.Goals as goal

pub returns : goal.returns
returns g c =
    let o = g.K.PriceKind.operations in
    let price = price_of o (g.L.LinkTable.meaning c.args.table.now) in
    let low = c.args.numbers.start in
    let high = c.args.numbers.end in
    let X = held c.args.tree.now in
    fold_from_yields_List _ (λ total k. o.added total (price k)) c.args.amount c.fold.result c.fold.ensures.ran
    (YieldsList-from_filter _ X (YieldsList-from_range low high (high - low) c.filter.ensures.source refl) c.filter.ensures.closure (λ x r q k. search (rules, tests)))
    (λ a x b q k. search (rules, tests))
    ∙ added_range o c.args.amount price low high X c.requires.ordered
