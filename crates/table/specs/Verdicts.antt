-- The verdict on a table with a budget.
use Rattle.std.specs.Prelude.{◌≡◌, ℕ, zero, suc, ◌<◌, Bool, cond, not, ◌&&◌, T, Some, None, Option, nat_lt}
use Rattle.price.specs.Kind.{Operations}
use Rattle.spanning.specs.Closure.{share_label}
use Rattle.spanning.specs.Joined.{Joined, Spans, NoRing}
use Rattle.table.specs.declared.verdicts.Verdict.{Verdict}
use Rattle.table.specs.declared.verdicts.Verdict.TheVariants as verdict
use Rattle.table.specs.Ranks.{ends, link_count, kept, usable}
use Rattle.table.specs.Table.{Table}
use Rattle.table.specs.Trees.{LawfulTreeOf, cost_of, TreeShown, is_spanned, shown}

-- the kept links of lower number
abbrev pub kept_under : {K : Type 0} → Table K → ℕ → ℕ → Bool
kept_under t l k = kept t k && nat_lt k l

-- l is the lowest-numbered kept link whose ends are already joined by kept links of lower number
pub record RingAt {K : Type 0} (t : Table K) (l : ℕ) : Type 0 where
  pub is_kept : T (kept t l)
  pub closes : Spans (ends t) (kept_under t l) l
  pub lowest : (k : ℕ) → k < l → T (kept t k) → Spans (ends t) (kept_under t k) k → ⊥

-- p is the lowest point that links which are not barred do not join to point 0
pub record CutAt {K : Type 0} (t : Table K) (p : ℕ) : Type 0 where
  pub below : p < t.points
  pub apart : Joined (ends t) (usable t) 0 p → ⊥
  pub lowest : (x : ℕ) → x < p → Joined (ends t) (usable t) 0 x

-- c is the least cost of a lawful tree, and the cost of the tree shown
pub record LeastCost {K : Type 0} (o : Operations K) (t : Table K) (c : K) : Type 0 where
  pub tree : ℕ → Bool
  pub is_shown : TreeShown o t tree
  pub costs : cost_of o t tree ≡ c
  pub least : (X : ℕ → Bool) → LawfulTreeOf t X → T (o.not_above c (cost_of o t X))

-- there is no lawful tree
abbrev pub NoTree : {K : Type 0} → Table K → Type 0
NoTree t = (X : ℕ → Bool) → LawfulTreeOf t X → ⊥

-- a lawful tree whose cost is not above the budget
pub record Fitting {K : Type 0} (o : Operations K) (t : Table K) (budget : K) (X : ℕ → Bool) : Type 0 where
  pub lawful : LawfulTreeOf t X
  pub within : T (o.not_above (cost_of o t X) budget)

-- What each verdict says. Exactly one is true of a lawful table with a budget.
abbrev pub VerdictIs : {K : Type 0} → Operations K → Table K → K → Verdict K → Type 0
VerdictIs o t budget (verdict.Ring l) = RingAt t l × NoTree t
VerdictIs o t budget (verdict.Cut p) = NoRing (ends t) (kept t) × CutAt t p × NoTree t
VerdictIs o t budget (verdict.Over c) = LeastCost o t c × ((X : ℕ → Bool) → Fitting o t budget X → ⊥)
VerdictIs o t budget (verdict.Fits c) = LeastCost o t c × T (o.not_above c budget)

-- the lowest number below n that passes a test, if any
abbrev pub or_else : Option ℕ → Option ℕ → Option ℕ
or_else (Some k) other = Some k
or_else None other = other

abbrev pub lowest : ℕ → (ℕ → Bool) → Option ℕ
lowest zero P = None
lowest (suc n) P = or_else (lowest n P) (cond (P n) (Some n) None)

-- the ring's link, the cut's point, and the least cost
abbrev pub ring_link : {K : Type 0} → Table K → Option ℕ
ring_link t = lowest (link_count t) (λ k. kept t k && is_spanned t (kept_under t k) k)

abbrev pub cut_point : {K : Type 0} → Table K → Option ℕ
cut_point t = lowest t.points (λ x. not (share_label (ends t) (link_count t) (usable t) 0 x))

abbrev pub least_cost : {K : Type 0} → Operations K → Table K → K
least_cost o t = cost_of o t (shown o t)

-- the verdict by these
abbrev pub judged : {K : Type 0} → Option ℕ → Option ℕ → K → Bool → Verdict K
judged (Some l) cut c within = verdict.Ring l
judged None (Some p) c within = verdict.Cut p
judged None None c within = cond within (verdict.Fits c) (verdict.Over c)

abbrev pub verdict_of : {K : Type 0} → Operations K → Table K → K → Verdict K
verdict_of o t budget = judged (ring_link t) (cut_point t) (least_cost o t) (o.not_above (least_cost o t) budget)
