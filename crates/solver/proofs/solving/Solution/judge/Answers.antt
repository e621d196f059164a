use Rattle.std.proofs.Common.{◌≡◌, None, sym, ◌∙◌}
use Rattle.spanning.specs.Sets.{held}
use Rattle.table.specs.Verdicts.{ring_link, cut_point}
use Rattle.solver.proofs.Judging.{shown_total, fits_with, over_with}
use Rattle.solver.proofs.solving.Solution.judge.Goals as goal

pub returns-then-not_above : goal.returns-then-not_above
returns-then-not_above g c = λ lawful s.
    let o = g.K.PriceKind.operations in
    let laws = g.met.K.PriceKind.lawful in
    let t = g.L.LinkTable.meaning c.args.table.now in
    let total = c.tree_total-total.result in
    let no_ring : ring_link t ≡ None = sym s.ring ∙ c.in_default.is in
    let no_cut : cut_point t ≡ None = sym s.cut ∙ c.in_default-cut.is in
    fits_with o laws t lawful no_ring no_cut c.args.budget total (shown_total o laws t lawful no_ring no_cut (held c.args.self.now.growth.tree) s.tree total (c.tree_total-total.ensures.exact lawful)) (sym c.not_above.ensures ∙ c.if-not_above.true)

pub returns-else-not_above : goal.returns-else-not_above
returns-else-not_above g c = λ lawful s.
    let o = g.K.PriceKind.operations in
    let laws = g.met.K.PriceKind.lawful in
    let t = g.L.LinkTable.meaning c.args.table.now in
    let total = c.tree_total-total.result in
    let no_ring : ring_link t ≡ None = sym s.ring ∙ c.in_default.is in
    let no_cut : cut_point t ≡ None = sym s.cut ∙ c.in_default-cut.is in
    over_with o laws t lawful no_ring no_cut c.args.budget total (shown_total o laws t lawful no_ring no_cut (held c.args.self.now.growth.tree) s.tree total (c.tree_total-total.ensures.exact lawful)) (sym c.not_above.ensures ∙ c.if-not_above.false)
