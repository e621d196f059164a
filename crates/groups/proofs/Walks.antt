-- A walk over the items of a key: what a turn gives, and what its end says.
use Rattle.std.proofs.Common.{◌≡◌, ℕ, ◌<◌, Bool, T, List, [], ◌∷◌, length, map, Some, None, Option, Contains, sym, refl, ap, ◌∙◌, subst}
use Rattle.std.specs.Iterator.{Yields, YieldsFirst}
use Rattle.std.proofs.lemmas.Iterator.{YieldsList}
use Rattle.std.proofs.lemmas.Iterator.Consumers.{YieldsList-from_first, YieldsList-turn, YieldsList-end}
use Rattle.groups.specs.Groups.{those_below}
use Rattle.groups.proofs.Putting.{those_have, those_are}

map_id : (xs : List ℕ) → map (λ x. x) xs ≡ xs
map_id [] = refl
map_id (x ∷ xs) = ap (λ ys. x ∷ ys) (map_id xs)

module _ (all start : List ℕ) (is : start ≡ all) (yielded left : List ℕ) (so_far : Yields (YieldsFirst (λ (items : List ℕ). items)) start yielded left) (next : Option ℕ) (rest : List ℕ) (step : YieldsFirst (λ (items : List ℕ). items) left next rest) where
  road : YieldsList (YieldsFirst (λ (items : List ℕ). items)) (λ x. x) start all
  road = YieldsList-from_first (λ x. x) (λ items. items) all is

  -- the item of a turn is one of the key's
  pub walk_turn : (item : ℕ) → next ≡ Some item → Contains all item
  walk_turn item e = let t = YieldsList-turn road yielded left so_far next rest item e step in (length yielded, t.0, sym t.1)

  -- at the end all have come
  pub walk_end : next ≡ None → yielded ≡ all
  walk_end e = let t = YieldsList-end road yielded left so_far next rest e step in sym (map_id yielded) ∙ t.0

-- the same where the items of a key are those below n that pass a test
module _ (P : ℕ → Bool) (n : ℕ) (items start : List ℕ) (starts : start ≡ items) (has : items ≡ those_below P n) (yielded left : List ℕ) (so_far : Yields (YieldsFirst (λ (items : List ℕ). items)) start yielded left) (next : Option ℕ) (rest : List ℕ) (step : YieldsFirst (λ (items : List ℕ). items) left next rest) where
  -- the item of a turn
  pub those_turn : (item : ℕ) → next ≡ Some item → (item < n) × T (P item)
  those_turn item is = those_are P n item (walk_turn (those_below P n) start (starts ∙ has) yielded left so_far next rest step item is)

  end : next ≡ None → yielded ≡ those_below P n
  end none = walk_end (those_below P n) start (starts ∙ has) yielded left so_far next rest step none

  -- at the end each has come, and no others
  pub end_has : next ≡ None → (item : ℕ) → item < n → T (P item) → Contains yielded item
  end_has none item l t = subst (λ xs. Contains xs item) (sym (end none)) (those_have P n item l t)

  pub end_only : next ≡ None → (item : ℕ) → Contains yielded item → (item < n) × T (P item)
  end_only none item c = those_are P n item (subst (λ xs. Contains xs item) (end none) c)
