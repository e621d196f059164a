use Rattle.spanning.proofs.Decided.{joined_is, is_joined}
use Rattle.spanning.proofs.joined_is_decided.Goals as goal

pub returns : goal.returns
returns c = λ g n finite S x y. (joined_is g n finite S x y, is_joined g n finite S x y)
