-- Points joined one link after the other: each join hangs one root from another, and is remembered.
use Rattle.std.specs.Prelude.{◌≡◌, ℕ, zero, suc, ◌<◌, ◌≤◌, Bool, false, cond, ◌||◌, T, List, [], ◌∷◌, length, take, Some, None, Option, ◌==◌, ◌≢◌, slice_index, slice_index_or}
use Rattle.spanning.specs.Closure.{Closure}
use Rattle.spanning.specs.Joined.{Graph, Joined}
use Rattle.spanning.specs.Trees.{Independent, OnPath}
use Rattle.forest.specs.Hangs.{hang_in}
use Rattle.forest.specs.declared.merges.Hang.{Hang}
use Rattle.forest.specs.declared.merges.Merges.{Merges}

-- the links of a list, as a set
abbrev pub among : List ℕ → ℕ → Bool
among [] k = false
among (j ∷ js) k = k == j || among js k

-- where a point hangs, if a join hung it
abbrev pub hang_of : Merges → ℕ → Option Hang
hang_of m x = hang_in m.nodes x

-- if the second of two points was hung, so was the first, and no later
abbrev pub NoLater : Option Hang → Option Hang → Type 0
NoLater first second = (h : Hang) → second ≡ Some h → (hang : Hang) × (first ≡ Some hang) × (hang.join ≤ h.join)

-- the links joined so far, in their order, and how many they are
abbrev pub joins_of : Merges → List ℕ
joins_of m = m.links.items

abbrev pub join_count : Merges → ℕ
join_count m = length (joins_of m)

-- Where the root r is after join t: if that join hung it, its parent is the root now; else it still is.
abbrev pub root_at : Option Hang → ℕ → ℕ → ℕ
root_at None t r = r
root_at (Some hang) t r = cond (hang.join == t) hang.parent r

-- the root of a point after so many joins; before the first each point is its own
abbrev pub root_after : (ℕ → Option Hang) → ℕ → ℕ → ℕ
root_after hang zero x = x
root_after hang (suc t) x = let r = root_after hang t x in root_at (hang r) t r

-- The joined links have both ends among the points; and after each number of joins, two points had one root exactly if the links
-- up to there join them.
pub record Remembers (m : Merges) (g : Graph) : Type 0 where
  pub ends : (k : ℕ) → T (among (joins_of m) k) → (g.first k < 1024) × (g.second k < 1024)
  pub one_root : (t x y : ℕ) → t ≤ join_count m → x < 1024 → y < 1024 → root_after (hang_of m) t x ≡ root_after (hang_of m) t y → Joined g (among (take t (joins_of m))) x y
  pub roots_met : (t x y : ℕ) → t ≤ join_count m → x < 1024 → y < 1024 → Joined g (among (take t (joins_of m))) x y → root_after (hang_of m) t x ≡ root_after (hang_of m) t y

-- Join number `number` of these, with this link, was the last that was needed to join two points.
pub record LastJoin (g : Graph) (joins : List ℕ) (x y link : ℕ) : Type 0 where
  pub number : ℕ
  pub within : number < length joins
  pub is : slice_index_or joins number 0 ≡ link
  pub then : Joined g (among (take (suc number) joins)) x y
  pub not_before : Joined g (among (take number joins)) x y → ⊥

-- no link twice
abbrev pub Sole : List ℕ → Type 0
Sole joins = (i j : ℕ) → i < j → j < length joins → slice_index joins i ≢ slice_index joins j

-- Where the links of a list close no ring, the last of them that was needed to span e is on the path between the ends of e, and no
-- later one is.
abbrev pub LastJoinTells : Type 0
LastJoinTells =
    (in_span : (ℕ → Bool) → ℕ → Bool) → Closure in_span → (kept free : ℕ → Bool) (before : ℕ → ℕ → Bool) (joins : List ℕ) → Sole joins → Independent in_span kept free before (among joins)
    → (e t : ℕ) → t < length joins → T (in_span (among (take (suc t) joins)) e) → (T (in_span (among (take t joins)) e) → ⊥)
    → OnPath in_span kept free before (among joins) e (slice_index joins t)
    × ((f : ℕ) → OnPath in_span kept free before (among joins) e f → (s : ℕ) × (s ≤ t) × (slice_index joins s ≡ f))
