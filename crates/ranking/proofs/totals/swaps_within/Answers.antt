use Rattle.std.proofs.Common.{◌≡◌, min, ap, ◌∙◌, sym, subst, T}
use Rattle.spanning.specs.Sets.{held}
use Rattle.table.specs.Ranks.{link_count}
use Rattle.ranking.specs.Totals.{SwapsAnswered, takes, swap_of}
use Rattle.ranking.proofs.SwapWalk.{all_answered, others_false}
use Rattle.ranking.proofs.totals.swaps_within.Goals as goal

pub returns : goal.returns
returns g c =
    let o = g.K.PriceKind.operations in
    let t = g.L.LinkTable.meaning c.args.table.now in
    let swaps = c.new-grouped.result in
    let end : c.min-count.result ≡ min (link_count t) 2048 = c.min-count.ensures ∙ ap (λ n. min n 2048) c.link_count.ensures in
    let swapped = all_answered o g.met.K.PriceKind.lawful t c.args.tree.now c.told-tree swaps c.min-count.result end c.args.budget c.carried.result c.answer_range.new.fits c.carried.ensures c.answer_range.ensures.range in
    let others = others_false o g.met.K.PriceKind.lawful t c.args.tree.now c.told-tree swaps c.min-count.result end c.answer_range.new.fits c.answer_range.ensures.rest in
    record {
      swapped = subst (λ w. SwapsAnswered o t (held c.args.tree.now) w c.args.budget c.answer_range.new.fits) c.new-grouped.ensures swapped;
      others = λ e out. others e (subst (λ w. T (takes (held c.args.tree.now) (swap_of w e)) → ⊥) (sym c.new-grouped.ensures) out);
    }
