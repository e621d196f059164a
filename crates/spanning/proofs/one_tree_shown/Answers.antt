use Rattle.spanning.proofs.Greedy.{greedy_tree_lem, greedy_shown, shown_in_greedy, greedy_in_shown}
use Rattle.spanning.proofs.Subsets.{same_test}
use Rattle.spanning.specs.Trees.{greedy}
use Rattle.spanning.proofs.one_tree_shown.Goals as goal

pub returns : goal.returns
returns c = λ in_span closed n kept free before ranked alone. (
  greedy_tree_lem in_span closed n kept free before ranked alone,
  greedy_shown in_span closed n kept free before ranked,
  λ X tree shown k. same_test (X k) (greedy in_span kept free before k) (shown_in_greedy in_span closed n kept free before ranked X tree shown k) (greedy_in_shown in_span closed n kept free before ranked X tree shown k),
)
