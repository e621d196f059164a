use Rattle.forest.proofs.MergePaths.{last_on_path_lem, none_later}
use Rattle.forest.proofs.merges.walking.last_join_tells.Goals as goal

pub returns : goal.returns
returns c = λ in_span closed kept free before joins sole alone e t lt now not_yet. (
  last_on_path_lem in_span closed kept free before joins sole alone e t lt now not_yet,
  none_later in_span closed kept free before joins sole alone e t lt now not_yet,
)
