use Rattle.forest.proofs.ReadSupports.{supports_are}
use Rattle.forest.proofs.networks.telling.paths_tell.Goals as goal

pub returns : goal.returns
returns g c = λ t order lawful ordered e fe r. supports_are g.K.PriceKind.operations g.met.K.PriceKind.lawful t lawful order ordered e fe r
