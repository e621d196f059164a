use Rattle.std.proofs.Common.{◌≡◌, ◌∙◌}
use Rattle.spanning.specs.Sets.{held}
use Rattle.ranking.specs.Totals.{added_cost_of}
use Rattle.ranking.proofs.TotalSums.{total_from, total_exact}
use Rattle.ranking.proofs.totals.tree_total.Goals as goal

pub returns : goal.returns
returns g c =
    let o = g.K.PriceKind.operations in
    let t = g.L.LinkTable.meaning c.args.table.now in
    let bits = c.args.tree.now in
    let all : c.add_range.result ≡ added_cost_of o t (held bits) =
    total_from o t bits c.told-tree c.min-count.result c.link_count.result c.carried.result c.add_range.result c.min-count.ensures c.link_count.ensures c.carried.ensures c.add_range.ensures in
    record { added = all; exact = λ lawful within ring. all ∙ total_exact o t bits g.met.K.PriceKind.lawful lawful within ring }
