use Rattle.spanning.proofs.Least.{least}
use Rattle.spanning.proofs.greedy_is_least.Goals as goal

pub returns : goal.returns
returns g c = λ in_span closed n kept free before ranked alone carried price priced cheap X tree.
    least in_span closed n kept free before ranked g.K.PriceKind.operations g.met.K.PriceKind.lawful carried price priced cheap alone X tree
