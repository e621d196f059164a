use Rattle.std.proofs.Common.{arith}
use Rattle.std.proofs.lemmas.Grind.{common_steps}
use Rattle.ranking.proofs.FreeNumbers.{one_more}
use Rattle.ranking.proofs.ordering.collecting.collect.Goals as goal

pub loop-number-preserved : goal.loop-number-preserved
loop-number-preserved g c = record { free = grind (arith, common_steps, one_more); short = grind (arith, common_steps) }
