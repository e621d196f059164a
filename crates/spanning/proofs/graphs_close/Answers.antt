use Rattle.spanning.proofs.Decided.{graph_closure}
use Rattle.spanning.proofs.graphs_close.Goals as goal

pub returns : goal.returns
returns c = graph_closure
