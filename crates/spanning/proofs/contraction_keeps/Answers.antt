use Rattle.spanning.proofs.Contracted as contraction
use Rattle.spanning.proofs.contraction_keeps.Goals as goal

pub returns : goal.returns
returns g c = λ in_span n kept free before carried price given.
    let k = given.closed in
    let r = given.ranked in
    let a = given.no_ring in
    record {
      closed = contraction.closed in_span k n kept free before r a;
      ranked = contraction.rankedᶜ in_span k n kept free before r a;
      tree_below = contraction.tree_below_lem in_span k n kept free before r a;
      tree_above = contraction.tree_above_lem in_span k n kept free before r a;
      greedy_above = contraction.greedy_above_lem in_span k n kept free before r a;
      costs = contraction.cost_above in_span k n kept free before r a g.K.PriceKind.operations g.met.K.PriceKind.lawful carried price given.priced;
    }
