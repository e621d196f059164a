-- The last-ranked free link on a tree's path between two points.
use Rattle.std.specs.Prelude.{◌≡◌, ℕ, ◌<◌, Bool, not, ◌&&◌, T, ◌⊎◌, List, length, Some, None, Option, slice_index}
use Rattle.spanning.specs.Joined.{Graph, Joined, NoRing}
use Rattle.spanning.specs.Sets.{held, without_link}
use Rattle.forest.specs.declared.merges.Merges.{Merges}
use Rattle.forest.specs.declared.networks.Network.{Network}
use Rattle.forest.specs.declared.networks.Tree.{Tree}
use Rattle.forest.specs.declared.paths.Paths.{Paths}
use Rattle.forest.specs.Growing.{free_of}
use Rattle.forest.specs.Merges.{among, joins_of, Remembers}
use Rattle.forest.specs.Readings.{links_of}

-- links of X join two points, and without f they do not
abbrev pub OnPathBetween : Graph → (ℕ → Bool) → ℕ → ℕ → ℕ → Type 0
OnPathBetween g X x y f = T (X f) × Joined g X x y × (Joined g (without_link X f) x y → ⊥)

-- l is the last-ranked free link on the path of X between two points
pub record LastBetween (g : Graph) (free : ℕ → Bool) (before : ℕ → ℕ → Bool) (X : ℕ → Bool) (x y l : ℕ) : Type 0 where
  pub loose : T (free l)
  pub on_path : OnPathBetween g X x y l
  pub last : (f : ℕ) → T (free f) → OnPathBetween g X x y f → (f ≡ l) ⊎ T (before f l)

-- the last-ranked free link on the path, and none if there is no free link on it
abbrev pub LastFree : Graph → (ℕ → Bool) → (ℕ → ℕ → Bool) → (ℕ → Bool) → ℕ → ℕ → Option ℕ → Type 0
LastFree g free before X x y None = (f : ℕ) → T (free f) → OnPathBetween g X x y f → ⊥
LastFree g free before X x y (Some l) = LastBetween g free before X x y l

-- what is told of a link: if it is free and outside the tree, the last-ranked free link on the path between its ends; else none
pub record LastLink (n : Network) (X : ℕ → Bool) (before : ℕ → ℕ → Bool) (k : ℕ) (r : Option ℕ) : Type 0 where
  pub outside : T (free_of n k) → (T (X k) → ⊥) → LastFree (links_of n) (free_of n) before X ((links_of n).first k) ((links_of n).second k) r
  pub inside : T (X k) → r ≡ None
  pub not_free : (T (free_of n k) → ⊥) → r ≡ None

-- The rest is a means. Of two joined links, if the earlier is free, the later is free too and ranks after it.
abbrev pub FreeByRank : Network → (ℕ → ℕ → Bool) → List ℕ → Type 0
FreeByRank n before joins = (s t : ℕ) → s < t → t < length joins → T (free_of n (slice_index joins s)) → T (free_of n (slice_index joins t)) × T (before (slice_index joins s) (slice_index joins t))

-- The links of S have been joined, those that are not free first, and then the free ones by rank.
pub record JoinedByRank (n : Network) (before : ℕ → ℕ → Bool) (S : ℕ → Bool) (m : Merges) : Type 0 where
  pub remembers : Remembers m (links_of n)
  pub links : (k : ℕ) → among (joins_of m) k ≡ S k
  pub by_rank : FreeByRank n before (joins_of m)

-- The links of a tree have been joined so.
pub record PathsOf (n : Network) (X : ℕ → Bool) (before : ℕ → ℕ → Bool) (p : Paths) : Type 0 where
  pub no_ring : NoRing (links_of n) X
  pub joined : JoinedByRank n before X p.merges

-- what the paths tell of a link is right, in whatever order they were joined by
abbrev pub ToldRightly : Tree → Paths → ℕ → Option ℕ → Type 0
ToldRightly t p k r = let n = t.network.now in let X = held t.bits.now in (before : ℕ → ℕ → Bool) → PathsOf n X before p → LastLink n X before k r

-- l is a link of X, and those of S are others; where one of them is free, l is free too and ranks after it
pub record ComesNext (n : Network) (X : ℕ → Bool) (before : ℕ → ℕ → Bool) (S : ℕ → Bool) (l : ℕ) : Type 0 where
  pub own : T (X l)
  pub others : (k : ℕ) → T (S k) → T (without_link X l k)
  pub late : (k : ℕ) → T (S k) → T (free_of n k) → T (free_of n l) × T (before k l)

-- the links of X that are not free
abbrev pub rest_of : Network → (ℕ → Bool) → ℕ → Bool
rest_of n X k = X k && not (free_of n k)
