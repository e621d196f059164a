use Rattle.spanning.proofs.Verdict.{verdicts}
use Rattle.spanning.proofs.verdicts_tell.Goals as goal

pub returns : goal.returns
returns h c = λ g points n kept free before carried price budget on ranked priced cheap limited.
    verdicts h.K.PriceKind.operations h.met.K.PriceKind.lawful g points n kept free before carried price budget on ranked priced cheap limited
