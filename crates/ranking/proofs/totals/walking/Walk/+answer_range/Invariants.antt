use Rattle.std.proofs.Common.{◌-◌}
use Rattle.ranking.proofs.totals.walking.Walk.+answer_range.Given as goal

abbrev pub decreases-answer_range : goal.decreases-answer_range
decreases-answer_range g l = l.numbers.end - l.numbers.start
