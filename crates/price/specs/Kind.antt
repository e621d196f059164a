-- What a price kind is: its amounts, how they add and compare, and the laws that it keeps.
-- An amount serves as a price, as a total of prices and as a budget.
use Rattle.std.specs.Prelude.{◌≡◌, ℕ, ◌+◌, ◌≤◌, Bool, T, ◌⊎◌}

-- The operations of a kind. `plus` is the exact total of two totals; `added` is what the kind's own code answers for any two
-- amounts, always the same for the same two.
pub record Operations (A : Type 0) : Type 0 where
  pub zero : A
  pub plus : A → A → A
  pub added : A → A → A
  pub not_above : A → A → Bool
  pub price : A → Bool
  pub budget : A → Bool

-- a total is exact up to this many prices: a tree on 1,024 points has 1,023 links
abbrev pub longest : ℕ
longest = 1023

-- x is the total of n admitted prices: of none it is zero, a price is the total of itself alone, and totals add up to totals
pub data TotalOf {A : Type 0} (o : Operations A) : ℕ → A → Type 0 where
  none : TotalOf o 0 o.zero
  one : (p : A) → T (o.price p) → TotalOf o 1 p
  both : (m n : ℕ) (x y : A) → TotalOf o m x → TotalOf o n y → TotalOf o (m + n) (o.plus x y)

-- what is compared: totals, and budgets, which compare as totals do
pub data Compared {A : Type 0} (o : Operations A) : A → Type 0 where
  total : (n : ℕ) (x : A) → TotalOf o n x → Compared o x
  limit : (x : A) → T (o.budget x) → Compared o x

-- The laws, asked of totals of admitted prices and of budgets, and of no other amount.
pub record Laws {A : Type 0} (o : Operations A) : Type 0 where
  pub either : (x y : A) → Compared o x → Compared o y → T (o.not_above x y) ⊎ T (o.not_above y x)
  pub transitive : (x y z : A) → Compared o x → Compared o y → Compared o z → T (o.not_above x y) → T (o.not_above y z) → T (o.not_above x z)
  pub swaps : (m n : ℕ) (x y : A) → TotalOf o m x → TotalOf o n y → o.plus x y ≡ o.plus y x
  pub regroups : (k m n : ℕ) (x y z : A) → TotalOf o k x → TotalOf o m y → TotalOf o n z → o.plus (o.plus x y) z ≡ o.plus x (o.plus y z)
  pub neutral : (n : ℕ) (x : A) → TotalOf o n x → o.plus o.zero x ≡ x
  pub zero_budget : T (o.budget o.zero)
  pub keeps_order : (m n : ℕ) (x y p : A) → TotalOf o m x → TotalOf o n y → T (o.price p) → T (o.not_above x y) → T (o.not_above (o.plus x p) (o.plus y p))
  pub exact : (m n : ℕ) (x y : A) → TotalOf o m x → TotalOf o n y → m + n ≤ longest → o.added x y ≡ o.plus x y
