use Rattle.table.proofs.Order.{ranks_order}
use Rattle.table.proofs.ranks_order.Goals as goal

pub returns : goal.returns
returns g c = ranks_order g.K.PriceKind.operations g.met.K.PriceKind.lawful
