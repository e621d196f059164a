-- What is computed on the network of a lawful table is what the table's definitions say.
use Rattle.std.specs.Prelude.{◌≡◌, ℕ, T, List, Option}
use Rattle.price.specs.Kind.{Operations}
use Rattle.spanning.specs.Trees.{Ranked, Ordered}
use Rattle.table.specs.Findings.{support_of}
use Rattle.table.specs.Ranks.{ends, kept, free, before}
use Rattle.table.specs.Table.{Table, Lawful}
use Rattle.table.specs.Trees.{shown}
use Rattle.table.specs.Verdicts.{ring_link, cut_point}
use Rattle.forest.specs.declared.networks.Network.{Network}
use Rattle.forest.specs.Growing.{kept_of, free_of, ring_of, cut_of, tree_of}
use Rattle.forest.specs.Paths.{LastFree}
use Rattle.forest.specs.Readings.{count_of, links_of, Reads}
use Rattle.forest.specs.Rooted.{Replaced}

-- the network's graph and marks, its ring, its cut and its tree by rank are the table's
pub record Tells {K : Type 0} (o : Operations K) (t : Table K) (n : Network) : Type 0 where
  pub graph : links_of n ≡ ends t
  pub kept : kept_of n ≡ kept t
  pub free : free_of n ≡ free t
  pub ranked : Ranked (count_of n) (kept_of n) (free_of n) (before o t)
  pub ring : ring_of n ≡ ring_link t
  pub cut : cut_of n ≡ cut_point t
  pub tree : tree_of n (before o t) ≡ shown o t

abbrev pub NetworksTell : {K : Type 0} → Operations K → Type 0
NetworksTell {K} o = (t : Table K) (n : Network) → Lawful o t → Reads t n → Tells o t n

-- what is told of paths and of replacements in the tree shown is the support of each free link
pub record SupportsAre {K : Type 0} (o : Operations K) (t : Table K) (order : List ℕ) (e : ℕ) (r : Option ℕ) : Type 0 where
  pub outside : (T (shown o t e) → ⊥) → LastFree (ends t) (free t) (before o t) (shown o t) ((ends t).first e) ((ends t).second e) r → r ≡ support_of o t e
  pub inside : T (shown o t e) → Replaced (ends t) (shown o t) order e r → r ≡ support_of o t e

abbrev pub PathsTell : {K : Type 0} → Operations K → Type 0
PathsTell {K} o = (t : Table K) (order : List ℕ) → Lawful o t → Ordered (free t) (before o t) order → (e : ℕ) → T (free t e) → (r : Option ℕ) → SupportsAre o t order e r
