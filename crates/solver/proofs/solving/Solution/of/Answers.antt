use Rattle.std.proofs.Common.{sym, ap, ◌∙◌, subst}
use Rattle.table.specs.Ranks.{before}
use Rattle.forest.specs.Growing.{FreeInOrder}
use Rattle.forest.proofs.ReadTables as read
use Rattle.solver.proofs.solving.Solution.of.Goals as goal

pub returns : goal.returns
returns g c = λ lawful.
    let o = g.K.PriceKind.operations in
    let laws = g.met.K.PriceKind.lawful in
    let t = g.L.LinkTable.meaning c.args.table.now in
    let n = c.of-network.result in
    let reads = c.of-network.ensures lawful in
    let ordered = c.of-order.ensures.ordered lawful in
    let listed = subst (FreeInOrder n (before o t)) (sym c.as_slice.ensures.value) (read.in_order t n reads o laws lawful _ ordered) in
    record {
      ordered = ordered;
      reads = reads;
      tree = λ k. c.grow-growth.ensures.tree (before o t) listed k ∙ ap (λ f. f k) (read.same_tree t n reads (before o t));
      ring = c.grow-growth.ensures.ring ∙ read.same_ring t n reads;
      cut = c.grow-growth.ensures.cut (before o t) listed ∙ read.same_cut t n reads;
    }
