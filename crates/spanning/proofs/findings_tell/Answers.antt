use Rattle.spanning.proofs.Found.{findings}
use Rattle.spanning.proofs.findings_tell.Goals as goal

pub returns : goal.returns
returns g c = λ in_span n kept free before carried price given budget limited fits e fe.
    findings g.K.PriceKind.operations g.met.K.PriceKind.lawful in_span n kept free before carried price given budget limited fits e fe
