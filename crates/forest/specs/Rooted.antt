-- The first link of a list that takes a tree link's place, and a tree rooted at point 0.
use Rattle.std.specs.Prelude.{◌≡◌, ℕ, ◌<◌, ◌≤◌, Bool, T, ◌⊎◌, List, [], ◌∷◌, ◌++◌, length, get_or, Some, None, Option, slice_index, slice_index_or, slice_set}
use Rattle.arrayvec.specs.ArrayVec.{array_vec_len}
use Rattle.spanning.specs.Joined.{Graph, Spans}
use Rattle.spanning.specs.Roots.{root_of}
use Rattle.spanning.specs.Sets.{without_link}
use Rattle.forest.specs.LinkEnds.{end_of, other}
use Rattle.forest.specs.declared.rooted.links_by_end.ends.End.{End}
use Rattle.forest.specs.Places.{point_in, above_in, parent_in, link_in}
use Rattle.forest.specs.declared.rooted.Above.{Above}
use Rattle.forest.specs.declared.rooted.Rooted.{Rooted}

-- The first link of a list, outside the tree X, that rejoins the two halves which X without e leaves.
module _ (g : Graph) (X : ℕ → Bool) (order : List ℕ) (e : ℕ) where
  -- no link of the list before the place i, outside the tree, rejoins them: X without e joins its ends
  abbrev pub NoneBefore : ℕ → Type 0
  NoneBefore i = (j : ℕ) → j < i → (T (X (slice_index order j)) → ⊥) → Spans g (without_link X e) (slice_index order j)

  pub record FirstRejoining (l : ℕ) : Type 0 where
    pub place : ℕ
    pub within : place < length order
    pub here : get_or order place 0 ≡ l
    pub outside : T (X l) → ⊥
    pub rejoins : Spans g (without_link X e) l → ⊥
    pub earlier : NoneBefore place

  abbrev pub Replaced : Option ℕ → Type 0
  Replaced None = NoneBefore (length order)
  Replaced (Some l) = FirstRejoining l

-- a link's ends are a and b, either way round
abbrev pub Between : Graph → ℕ → ℕ → ℕ → Type 0
Between g e a b = ((g.first e ≡ a) × (g.second e ≡ b)) ⊎ ((g.first e ≡ b) × (g.second e ≡ a))

-- how many places there are; the place of a point; the point at a place, what is above it, its parent and the link above it
abbrev pub count_of : Rooted → ℕ
count_of r = array_vec_len r.order

abbrev pub place_of : Rooted → ℕ → Option ℕ
place_of r x = slice_index_or r.places x None

abbrev pub point_at : Rooted → ℕ → ℕ
point_at r p = point_in r.order.items p

abbrev pub above_at : Rooted → ℕ → Option Above
above_at r p = above_in r.order.items p

abbrev pub parent_at : Rooted → ℕ → ℕ
parent_at r p = parent_in r.order.items p

abbrev pub link_above : Rooted → ℕ → ℕ
link_above r p = link_in r.order.items p

-- Different places for so many points below the given number. Point 0 has place 0.
pub record Numbered (points : ℕ) (r : Rooted) : Type 0 where
  pub some : 0 < count_of r
  pub few : count_of r ≤ points
  pub root : ◌≡◌ {A = ℕ} (point_at r 0) 0
  pub point : (p : ℕ) → p < count_of r → point_at r p < points
  pub back : (p : ℕ) → p < count_of r → place_of r (point_at r p) ≡ Some p
  pub place : (x p : ℕ) → x < points → place_of r x ≡ Some p → (p < count_of r) × (point_at r p ≡ x)

-- The link above each place but the root's is one of X, between the points of the place and of its parent.
pub record Linked (g : Graph) (X : ℕ → Bool) (r : Rooted) : Type 0 where
  pub holds : (p : ℕ) → 0 < p → p < count_of r → T (X (link_above r p))
  pub ends : (p : ℕ) → 0 < p → p < count_of r → Between g (link_above r p) (point_at r p) (point_at r (parent_at r p))

-- A rooted tree: every point below the given number has a place, and every link of X is above a place.
pub record RootedTree (g : Graph) (points : ℕ) (X : ℕ → Bool) (r : Rooted) : Type 0 where
  pub numbered : Numbered points r
  pub linked : Linked g X r
  pub placed : (x : ℕ) → x < points → (p : ℕ) × (place_of r x ≡ Some p) × (p < count_of r) × (point_at r p ≡ x)
  pub all : (e : ℕ) → T (X e) → (p : ℕ) × (0 < p) × (p < count_of r) × (link_above r p ≡ e)

-- What the walk that roots a tree goes by.

-- a point has a place
abbrev pub Placed : Rooted → ℕ → Type 0
Placed r x = (p : ℕ) × (p < count_of r) × (point_at r p ≡ x)

-- the places given stay
pub record Grown (r s : Rooted) : Type 0 where
  pub more : count_of r ≤ count_of s
  pub kept : (p : ℕ) → p < count_of r → point_at s p ≡ point_at r p

-- one more point has a place, the next
pub record Added (r s : Rooted) (x : ℕ) (above : Above) : Type 0 where
  pub placed : s.places ≡ slice_set r.places x (Some (count_of r))
  pub ordered : s.order.items ≡ r.order.items ++ record { point = x; above = Some above } ∷ []

-- from the point at a place the links of X reach only points with places
abbrev pub Swept : Graph → (ℕ → Bool) → Rooted → ℕ → Type 0
Swept g X r p = (end : End) (e : ℕ) → T (X e) → end_of g end e ≡ point_at r p → Placed r (end_of g (other end) e)

-- What the cover goes by, once the links of the list before the place i are done: the root of a part is its own, and any other place has
-- the root of its parent, from which a covered link leads down to it; a place whose link is not covered is the root of its part; a covered
-- link has its first replacement; and the ends of each link done, outside the tree, are in one part.
pub record Covering (g : Graph) (X : ℕ → Bool) (order : List ℕ) (r : Rooted) (i : ℕ) (parts : List ℕ) (out : List (Option ℕ)) : Type 0 where
  pub hung : (p : ℕ) → p < count_of r → (root_of parts p ≡ p) ⊎ (root_of parts p ≡ root_of parts (parent_at r p))
  pub lone : (p : ℕ) → 0 < p → p < count_of r → slice_index_or out (link_above r p) None ≡ None → root_of parts p ≡ p
  pub told : (e l : ℕ) → slice_index_or out e None ≡ Some l → T (X e) × FirstRejoining g X order e l
  pub met : (j a b : ℕ) → j < i → (T (X (slice_index order j)) → ⊥) → place_of r (g.first (slice_index order j)) ≡ Some a → place_of r (g.second (slice_index order j)) ≡ Some b → root_of parts a ≡ root_of parts b
