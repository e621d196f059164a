use Rattle.table.proofs.NarrowFound.{narrows}
use Rattle.table.proofs.narrowing_keeps.Goals as goal

pub returns : goal.returns
returns g c = λ t lawful ring. narrows g.K.PriceKind.operations g.met.K.PriceKind.lawful t lawful ring
