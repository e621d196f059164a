use Rattle.table.proofs.Judged.{judges}
use Rattle.table.proofs.Shown.{one_shown}
use Rattle.table.proofs.tables_tell.Goals as goal

pub returns : goal.returns
returns g c = λ t lawful.
    let o = g.K.PriceKind.operations in
    let laws = g.met.K.PriceKind.lawful in
    (one_shown o laws t lawful, (λ budget limited. judges o laws t lawful budget limited))
