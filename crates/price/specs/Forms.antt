-- How the amounts of a storable kind stand in a file: four bytes, the highest first.
use Rattle.std.specs.Prelude.{◌≡◌, ℕ, ◌+◌, ◌*◌, ◌/◌, ◌%◌, ◌<◌, Bool, cond, T, List, [], ◌∷◌, length, Some, None, Option, slice_index}
use Rattle.price.specs.Kind.{Operations}

-- the number below 2 ^ 32 that four bytes stand for, and the four bytes of a number
abbrev pub number32 : List ℕ → ℕ
number32 bs = slice_index bs 0 * 16777216 + slice_index bs 1 * 65536 + slice_index bs 2 * 256 + slice_index bs 3

abbrev pub bytes32 : ℕ → List ℕ
bytes32 n = (n / 16777216 % 256) ∷ (n / 65536 % 256) ∷ (n / 256 % 256) ∷ (n % 256) ∷ []

-- four bytes
pub record Four (bs : List ℕ) : Type 0 where
  pub four : length bs ≡ 4
  pub small : (k : ℕ) → slice_index bs k < 256

-- What a storable kind stores: its code, the form of each price and each budget, and what a form stands for, if anything.
pub record Forms (A : Type 0) : Type 0 where
  pub code : ℕ
  pub price_form : A → List ℕ
  pub price_of : List ℕ → Option A
  pub budget_form : A → List ℕ
  pub budget_of : List ℕ → Option A

-- the amount where the test passes, and none where it fails
abbrev pub only : {A : Type 0} → (A → Bool) → A → Option A
only admitted x = cond (admitted x) (Some x) None

-- One sort of amount, prices or budgets: a form is four bytes, each admitted amount's form reads back to it, and every other four bytes are none.
pub record Tied {A : Type 0} (admitted : A → Bool) (form : A → List ℕ) (reads : List ℕ → Option A) : Type 0 where
  pub long : (x : A) → Four (form x)
  pub back : (x : A) → T (admitted x) → reads (form x) ≡ Some x
  pub sole : (bs : List ℕ) (x : A) → Four bs → reads bs ≡ Some x → T (admitted x) × (form x ≡ bs)

-- both sorts
pub record Storable {A : Type 0} (o : Operations A) (f : Forms A) : Type 0 where
  pub prices : Tied o.price f.price_form f.price_of
  pub budgets : Tied o.budget f.budget_form f.budget_of
  pub byte : f.code < 256
