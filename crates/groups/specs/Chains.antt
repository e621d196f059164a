-- Chains over fixed memory: each item leads to the one put before it.
use Rattle.std.specs.Prelude.{◌≡◌, ℕ, zero, suc, ◌<◌, ◌≤◌, List, [], ◌∷◌, length, Some, None, Option, slice_index_or}

-- the first n items of a chain: an item, and those that it leads to
abbrev pub chain : List (Option ℕ) → ℕ → Option ℕ → List ℕ
chain nexts zero at = []
chain nexts (suc n) None = []
chain nexts (suc n) (Some item) = item ∷ chain nexts n (slice_index_or nexts item None)

-- all items of a chain, which has no more than there are
abbrev pub items_from : List (Option ℕ) → Option ℕ → List ℕ
items_from nexts at = chain nexts (length nexts) at

-- an item, if there is one, is below n
pub record Below (n : ℕ) (at : Option ℕ) : Type 0 where
  pub below : (item : ℕ) → at ≡ Some item → item < n

-- each item leads to a lower one
pub record Falling (nexts : List (Option ℕ)) : Type 0 where
  pub lower : (item : ℕ) → Below item (slice_index_or nexts item None)

-- chains of items below the least that may come next
pub record Chained (items least : ℕ) (heads nexts : List (Option ℕ)) : Type 0 where
  pub few : least ≤ items
  pub within : (key : ℕ) → Below least (slice_index_or heads key None)
  pub falling : Falling nexts
