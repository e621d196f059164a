use Rattle.spanning.proofs.Few.{fewer}
use Rattle.spanning.proofs.fewer_than_points.Goals as goal

pub returns : goal.returns
returns c = λ g points n X some ring first second. fewer g X points ring first second some n
