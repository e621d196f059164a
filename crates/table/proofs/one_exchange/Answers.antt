use Rattle.table.proofs.Exchanged.{one_exchange}
use Rattle.table.proofs.one_exchange.Goals as goal

pub returns : goal.returns
returns g c = λ e t t' lawful lawful' differ. one_exchange g.K.PriceKind.operations g.met.K.PriceKind.lawful e t t' lawful lawful' differ
