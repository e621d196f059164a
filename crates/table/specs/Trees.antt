-- The lawful trees of a table, their cost, and the tree shown.
use Rattle.std.specs.Prelude.{ℕ, Bool, T}
use Rattle.price.specs.Kind.{Operations}
use Rattle.spanning.specs.Closure.{share_label}
use Rattle.spanning.specs.Costs.{cost}
use Rattle.spanning.specs.Joined.{Spans}
use Rattle.spanning.specs.Lawful.{LawfulTree}
use Rattle.spanning.specs.Sets.{without_link}
use Rattle.spanning.specs.Trees.{greedy}
use Rattle.table.specs.Ranks.{ends, link_count, kept, free, price_of, before}
use Rattle.table.specs.Table.{Table}

-- a set of links that joins all points, has no ring, holds every kept link and no barred one
abbrev pub LawfulTreeOf : {K : Type 0} → Table K → (ℕ → Bool) → Type 0
LawfulTreeOf t X = LawfulTree (ends t) t.points (kept t) (free t) X

-- the carried total with the prices of the links added
abbrev pub cost_of : {K : Type 0} → Operations K → Table K → (ℕ → Bool) → K
cost_of o t X = cost o t.carried (price_of o t) (link_count t) X

-- f is on the path of X between the ends of h: X joins them, and X without f does not
abbrev pub OnPathOf : {K : Type 0} → Table K → (ℕ → Bool) → ℕ → ℕ → Type 0
OnPathOf t X h f = T (X f) × Spans (ends t) X h × (Spans (ends t) (without_link X f) h → ⊥)

-- The tree shown: the lawful tree in which each free link left out ranks after every free link on the path between its ends.
pub record TreeShown {K : Type 0} (o : Operations K) (t : Table K) (X : ℕ → Bool) : Type 0 where
  pub lawful : LawfulTreeOf t X
  pub ranks : (h f : ℕ) → T (free t h) → (T (X h) → ⊥) → T (free t f) → OnPathOf t X h f → T (before o t f h)

-- whether links of S join the ends of a link
abbrev pub is_spanned : {K : Type 0} → Table K → (ℕ → Bool) → ℕ → Bool
is_spanned t S e = share_label (ends t) (link_count t) S ((ends t).first e) ((ends t).second e)

-- the tree shown, link by link: the kept links, and each free link whose ends are not joined by kept links and free links before it
abbrev pub shown : {K : Type 0} → Operations K → Table K → ℕ → Bool
shown o t = greedy (is_spanned t) (kept t) (free t) (before o t)
