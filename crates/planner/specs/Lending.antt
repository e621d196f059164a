-- What a contract sees of lent memory.
use Rattle.std.specs.Prelude.{ℕ, List}

-- what is in the places that are taken, in order, and how many places were lent
pub record Lending (T : Type 0) : Type 0 where
  pub taken : List T
  pub places : ℕ
