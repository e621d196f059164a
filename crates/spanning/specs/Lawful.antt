-- Lawful trees of a graph with marks: what a spanning tree is, in the words of points and links.
use Rattle.std.specs.Prelude.{ℕ, ◌<◌, Bool, ◌||◌, T}
use Rattle.spanning.specs.Closure.{Finite}
use Rattle.spanning.specs.Joined.{Graph, Joined, NoRing}

-- A set of links that joins all points, has no ring, holds every kept link and no barred one.
pub record LawfulTree (g : Graph) (points : ℕ) (kept free : ℕ → Bool) (X : ℕ → Bool) : Type 0 where
  pub joins_all : (x : ℕ) → x < points → Joined g X 0 x
  pub no_ring : NoRing g X
  pub holds_kept : (k : ℕ) → T (kept k) → T (X k)
  pub no_barred : (k : ℕ) → T (X k) → T (kept k || free k)

-- A graph of n links on these points: links past the count join a point to itself, and no link that may be used leaves the points.
pub record OnPoints (g : Graph) (points n : ℕ) (kept free : ℕ → Bool) : Type 0 where
  pub some : 0 < points
  pub finite : Finite g n
  pub first_below : (k : ℕ) → T (kept k || free k) → g.first k < points
  pub second_below : (k : ℕ) → T (kept k || free k) → g.second k < points

-- the links that are not barred join all points
abbrev pub AllJoined : Graph → ℕ → (ℕ → Bool) → (ℕ → Bool) → Type 0
AllJoined g points kept free = (x : ℕ) → x < points → Joined g (λ k. kept k || free k) 0 x
