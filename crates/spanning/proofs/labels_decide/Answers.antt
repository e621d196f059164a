use Rattle.std.proofs.Common.{◌≤◌, T, eqb, sym, subst, eqb→eq}
use lib.Dec.{eqb_refl}
use Rattle.spanning.specs.Closure.{label_of}
use Rattle.spanning.proofs.LabelsDecide.{joined_is, is_joined}
use Rattle.spanning.proofs.Few.{label_low, label_idle}
use Rattle.spanning.proofs.labels_decide.Goals as goal

pub returns : goal.returns
returns c = λ g n finite S x. record {
  joined = joined_is g n finite S x;
  sound = is_joined g n finite S x;
  own = is_joined g n finite S x (label_of g n S x) (subst (λ l. T (eqb (label_of g n S x) l)) (sym (label_idle g n S x)) (eqb_refl (label_of g n S x)));
  lowest = λ y d. subst (λ l. l ≤ y) (sym (eqb→eq (label_of g n S x) (label_of g n S y) (joined_is g n finite S x y d))) (label_low g n S y);
}
