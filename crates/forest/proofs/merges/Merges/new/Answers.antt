use Rattle.forest.proofs.MergeHanging.{none_hangs}
use Rattle.forest.proofs.MergeJoins.{remembers_none}
use Rattle.forest.proofs.merges.Merges.new.Goals as goal

pub invariant_of-result-clause-parent_is_point : goal.invariant_of-result-clause-parent_is_point
invariant_of-result-clause-parent_is_point c = λ x h is. absurd (none_hangs 1024 x h is)

pub invariant_of-result-clause-hung_by_join : goal.invariant_of-result-clause-hung_by_join
invariant_of-result-clause-hung_by_join c = λ x h is. absurd (none_hangs 1024 x h is)

pub invariant_of-result-clause-rises : goal.invariant_of-result-clause-rises
invariant_of-result-clause-rises c = λ x h above is at. absurd (none_hangs 1024 x h is)

pub returns-clause-remembers : goal.returns-clause-remembers
returns-clause-remembers c = λ g. remembers_none _ g c.new.ensures
