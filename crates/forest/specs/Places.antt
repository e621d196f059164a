-- The places of a tree's points.
use Rattle.std.specs.Prelude.{◌≡◌, ℕ, ◌<◌, ◌↔◌, List, length, Some, None, Option, slice_index_or}
use Rattle.forest.specs.declared.rooted.Above.{Above}
use Rattle.forest.specs.declared.rooted.Place.{Place}

-- a number past the places reads as the root's place
abbrev pub root_place : Place
root_place = record { point = 0; above = None }

-- the place of the parent, and the link to it; 0 for none
abbrev pub parent_of : Option Above → ℕ
parent_of None = 0
parent_of (Some above) = above.parent

abbrev pub link_of : Option Above → ℕ
link_of None = 0
link_of (Some above) = above.link

-- the point at a place, what is above it, the place of its parent, and the link between the two
abbrev pub point_in : List Place → ℕ → ℕ
point_in order p = (slice_index_or order p root_place).point

abbrev pub above_in : List Place → ℕ → Option Above
above_in order p = (slice_index_or order p root_place).above

abbrev pub parent_in : List Place → ℕ → ℕ
parent_in order p = parent_of (above_in order p)

abbrev pub link_in : List Place → ℕ → ℕ
link_in order p = link_of (above_in order p)

-- a point has a place exactly if it is the point at that place
abbrev pub Agree : List (Option ℕ) → List Place → Type 0
Agree places order = (x p : ℕ) → (slice_index_or places x None ≡ Some p) ↔ ((p < length order) × (point_in order p ≡ x))
