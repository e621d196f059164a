use Rattle.table.proofs.Finds.{finds}
use Rattle.table.proofs.findings_tell.Goals as goal

pub returns : goal.returns
returns g c = λ t budget least lawful limited fits e. finds g.K.PriceKind.operations g.met.K.PriceKind.lawful t lawful budget least limited fits e
