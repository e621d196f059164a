-- The greedy tree of a network, grown link by link; the link that closes a ring, and the point that is cut off.
use Rattle.std.specs.Prelude.{◌≡◌, ℕ, Bool, not, ◌&&◌, ◌||◌, List, take, Option, nat_lt}
use Rattle.spanning.specs.Closure.{share_label}
use Rattle.spanning.specs.Roots.{Represents}
use Rattle.spanning.specs.Trees.{Ranked, Ordered, greedy}
use Rattle.table.specs.Verdicts.{lowest}
use Rattle.forest.specs.declared.growing.Grower.{Grower}
use Rattle.forest.specs.declared.networks.Network.{Network}
use Rattle.forest.specs.Merges.{among}
use Rattle.spanning.specs.Sets.{held}
use Rattle.forest.specs.Networks.{kept_in, free_in, usable_in}
use Rattle.forest.specs.Readings.{count_of, links_of}

abbrev pub kept_of : Network → ℕ → Bool
kept_of n = kept_in n.links.items

abbrev pub free_of : Network → ℕ → Bool
free_of n = free_in n.links.items

abbrev pub usable_of : Network → ℕ → Bool
usable_of n = usable_in n.links.items

-- whether links of S join the ends of a link
abbrev pub spanned_by : Network → (ℕ → Bool) → ℕ → Bool
spanned_by n S e = share_label (links_of n) (count_of n) S ((links_of n).first e) ((links_of n).second e)

-- the kept links of lower number
abbrev pub kept_below : Network → ℕ → ℕ → Bool
kept_below n i k = kept_of n k && nat_lt k i

-- a kept link whose ends kept links of lower number join already
abbrev pub closes_ring : Network → ℕ → Bool
closes_ring n k = kept_of n k && spanned_by n (kept_below n k) k

-- a point that links which are not barred do not join to point 0
abbrev pub is_cut : Network → ℕ → Bool
is_cut n x = not (share_label (links_of n) (count_of n) (usable_of n) 0 x)

-- the lowest of each
abbrev pub ring_of : Network → Option ℕ
ring_of n = lowest (count_of n) (closes_ring n)

abbrev pub cut_of : Network → Option ℕ
cut_of n = lowest n.points (is_cut n)

-- the tree, in an order of links
abbrev pub tree_of : Network → (ℕ → ℕ → Bool) → ℕ → Bool
tree_of n before = greedy (spanned_by n) (kept_of n) (free_of n) before

-- the list has the free links of a network in the order of their ranks
pub record FreeInOrder (n : Network) (before : ℕ → ℕ → Bool) (order : List ℕ) : Type 0 where
  pub ranked : Ranked (count_of n) (kept_of n) (free_of n) before
  pub ordered : Ordered (free_of n) before order

-- Kept links below i have been joined.
pub record KeptTo (n : Network) (i : ℕ) (g : Grower) : Type 0 where
  pub parts : Represents g.parts.parents (links_of n) (kept_below n i)
  pub bits : (k : ℕ) → held g.tree k ≡ kept_below n i k
  pub closed : g.ring ≡ lowest i (closes_ring n)

-- the kept links, and the first i of a list
abbrev pub joined_to : Network → List ℕ → ℕ → ℕ → Bool
joined_to n order i k = kept_of n k || among (take i order) k

-- Beside the kept links, the first i of the order have been joined.
pub record GrownTo (n : Network) (order : List ℕ) (before : ℕ → ℕ → Bool) (i : ℕ) (g : Grower) : Type 0 where
  pub parts : Represents g.parts.parents (links_of n) (joined_to n order i)
  pub bits : (k : ℕ) → held g.tree k ≡ (kept_of n k || (among (take i order) k && tree_of n before k))
