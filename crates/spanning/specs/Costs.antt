-- The cost of a set of links: a carried total with the prices of its links added, in the order of their numbers.
use Rattle.std.specs.Prelude.{ℕ, zero, suc, Bool, cond, T}
use Rattle.price.specs.Kind.{Operations, TotalOf}

abbrev pub cost : {A : Type 0} → Operations A → A → (ℕ → A) → ℕ → (ℕ → Bool) → A
cost o carried price zero X = carried
cost o carried price (suc n) X = cond (X n) (o.plus (cost o carried price n X) (price n)) (cost o carried price n X)

-- the carried total is that of so many admitted prices, and the price of each usable link is admitted
pub record Priced {A : Type 0} (o : Operations A) (carried : A) (price : ℕ → A) (usable : ℕ → Bool) : Type 0 where
  pub carries : ℕ
  pub total : TotalOf o carries carried
  pub priced : (k : ℕ) → T (usable k) → T (o.price (price k))
