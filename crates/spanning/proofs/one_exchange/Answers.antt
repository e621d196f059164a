use Rattle.spanning.proofs.Exchange.{one_leaves_lem, one_enters_lem}
use Rattle.spanning.proofs.one_exchange.Goals as goal

pub returns : goal.returns
returns c = λ in_span closed n e kept free before kept' free' before' ranked ranked' better. (
  one_leaves_lem in_span closed n e kept free before kept' free' before' ranked ranked' better,
  one_enters_lem in_span closed n e kept free before kept' free' before' ranked ranked' better,
)
