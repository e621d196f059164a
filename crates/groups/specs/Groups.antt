-- Items in groups: what is under each key, and what putting an item does.
use Rattle.std.specs.Prelude.{◌≡◌, ℕ, zero, suc, ◌+◌, ◌<◌, ◌≤◌, Bool, ◌&&◌, if◌then◌else◌, List, [], ◌∷◌, length, replicate, slice_index_or, slice_set, nat_lt, nat_le}

-- the items of each key, from the last to the first, and the least item that may come next
pub record Grouping : Type 0 where
  pub lists : List (List ℕ)
  pub least : ℕ

-- no item under any of so many keys
abbrev pub no_items : ℕ → Grouping
no_items keys = record { lists = replicate keys []; least = 0 }

-- the items of a key, from the last to the first, and none past the last key
abbrev pub group : Grouping → ℕ → List ℕ
group g key = slice_index_or g.lists key []

-- one item more, in front of the others of its key
abbrev pub with_item : Grouping → ℕ → ℕ → Grouping
with_item g key item = record { lists = slice_set g.lists key (item ∷ group g key); least = item + 1 }

-- whether there are such a key and such an item, and the item is above all before
abbrev pub fits_under : ℕ → ℕ → Grouping → ℕ → ℕ → Bool
fits_under keys items g key item = nat_lt key keys && (nat_lt item items && nat_le g.least item)

-- an item put under a key, if it fits
abbrev pub put_under : ℕ → ℕ → Grouping → ℕ → ℕ → Grouping
put_under keys items g key item = if fits_under keys items g key item then with_item g key item else g

-- the numbers below n that pass, from the greatest to the least
unfoldable pub those_below : (ℕ → Bool) → ℕ → List ℕ
those_below P zero = []
those_below P (suc n) = if P n then n ∷ those_below P n else those_below P n

-- The items below n have been put, each under the keys that `under` says: the items of a key are those that are under it.
pub record GroupedTo (keys : ℕ) (under : ℕ → ℕ → Bool) (n : ℕ) (g : Grouping) : Type 0 where
  pub each_key : length g.lists ≡ keys
  pub rising : g.least ≤ n
  pub items : (key : ℕ) → key < keys → group g key ≡ those_below (under key) n
