use Rattle.table.proofs.Finds.{supports}
use Rattle.table.proofs.supports_tell.Goals as goal

pub returns : goal.returns
returns g c = λ t lawful Y tree e. supports g.K.PriceKind.operations g.met.K.PriceKind.lawful t lawful Y tree e
