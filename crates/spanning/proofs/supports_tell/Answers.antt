use Rattle.spanning.proofs.Told.{holding, lacking}
use Rattle.spanning.proofs.supports_tell.Goals as goal

pub returns : goal.returns
returns g c = λ in_span n kept free before carried price given e fe. (
  holding g.K.PriceKind.operations g.met.K.PriceKind.lawful in_span n kept free before carried price given e fe,
  lacking g.K.PriceKind.operations g.met.K.PriceKind.lawful in_span n kept free before carried price given e fe,
)
