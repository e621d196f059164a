-- What is proved of tables, as statements.
use Rattle.std.specs.Prelude.{◌≡◌, ℕ, Bool, not, T, ◌⊎◌, Some, None, Option, ◌≢◌}
use Rattle.std.specs.List.{slice_get}
use Rattle.price.specs.Kind.{Operations}
use Rattle.spanning.specs.Joined.{NoRing}
use Rattle.spanning.specs.Lawful.{AllJoined}
use Rattle.spanning.specs.Trees.{Ranked, AtMostOneLeaves}
use Rattle.table.specs.declared.links.Link.{Link}
use Rattle.table.specs.declared.verdicts.Finding.{Finding}
use Rattle.table.specs.declared.verdicts.Verdict.{Verdict}
use Rattle.table.specs.declared.verdicts.Verdict.TheVariants as verdict
use Rattle.table.specs.Ranks.{ends, link_count, kept, free, price_of, before}
use Rattle.table.specs.Table.{Table, Lawful}
use Rattle.table.specs.Trees.{LawfulTreeOf, cost_of, TreeShown, shown}
use Rattle.table.specs.Verdicts.{VerdictIs, verdict_of}
use Rattle.table.specs.Findings.{FindingIs, SupportIs, finding_of, support_of, exchanged}

-- the ranks of a lawful table's free links are a strict total order, which never puts a dearer link first
abbrev pub RanksOrder : {K : Type 0} → Operations K → Type 0
RanksOrder {K} o =
    (t : Table K) → Lawful o t
    → Ranked (link_count t) (kept t) (free t) (before o t)
    × ((a b : ℕ) → T (free t a) → T (free t b) → T (before o t a b) → T (o.not_above (price_of o t a) (price_of o t b)))

-- If kept links close no ring and links that are not barred join all points, there is exactly one tree shown; else there is no lawful
-- tree at all.
pub record OneShown {K : Type 0} (o : Operations K) (t : Table K) : Type 0 where
  pub exists : NoRing (ends t) (kept t) → AllJoined (ends t) t.points (kept t) (free t) → TreeShown o t (shown o t)
  pub sole : (X : ℕ → Bool) → TreeShown o t X → (k : ℕ) → X k ≡ shown o t k
  pub no_ring : (X : ℕ → Bool) → LawfulTreeOf t X → NoRing (ends t) (kept t)
  pub all_joined : (X : ℕ → Bool) → LawfulTreeOf t X → AllJoined (ends t) t.points (kept t) (free t)

-- X is a lawful tree that passes a test, and every lawful tree that passes it costs at least as much
pub record LeastOf {K : Type 0} (o : Operations K) (t : Table K) (test : (ℕ → Bool) → Bool) (X : ℕ → Bool) : Type 0 where
  pub lawful : LawfulTreeOf t X
  pub passes : T (test X)
  pub least : (Y : ℕ → Bool) → LawfulTreeOf t Y → T (test Y) → T (o.not_above (cost_of o t X) (cost_of o t Y))

-- the verdict computed is the one that is true, and the only one
pub record Judges {K : Type 0} (o : Operations K) (t : Table K) (budget : K) : Type 0 where
  pub true : VerdictIs o t budget (verdict_of o t budget)
  pub only : (v : Verdict K) → VerdictIs o t budget v → v ≡ verdict_of o t budget

-- where the least cost is within the budget, the finding computed is the one that is true, and the only one
pub record Finds {K : Type 0} (o : Operations K) (t : Table K) (budget : K) (e : ℕ) : Type 0 where
  pub finding : FindingIs o t budget e (finding_of o t budget e)
  pub only_finding : (f : Finding) → FindingIs o t budget e f → f ≡ finding_of o t budget e

-- The support computed is the one defined, and the only one. It tells the least lawful tree that holds a free link outside the tree
-- shown, and the least that lacks one in it; without a support no lawful tree holds the link, or every one does.
pub record Supports {K : Type 0} (o : Operations K) (t : Table K) (e : ℕ) : Type 0 where
  pub support : SupportIs o t (shown o t) e (support_of o t e)
  pub only_support : (r : Option ℕ) → SupportIs o t (shown o t) e r → r ≡ support_of o t e
  pub holds : T (free t e) → (T (shown o t e) → ⊥) → (l : ℕ) → support_of o t e ≡ Some l → LeastOf o t (λ X. X e) (exchanged o t l e)
  pub held_by_none : T (free t e) → (T (shown o t e) → ⊥) → support_of o t e ≡ None → (X : ℕ → Bool) → LawfulTreeOf t X → T (X e) → ⊥
  pub lacks : T (free t e) → T (shown o t e) → (l : ℕ) → support_of o t e ≡ Some l → LeastOf o t (λ X. not (X e)) (exchanged o t e l)
  pub lacked_by_none : T (free t e) → T (shown o t e) → support_of o t e ≡ None → (X : ℕ → Bool) → LawfulTreeOf t X → T (X e)

abbrev pub TablesTell : {K : Type 0} → Operations K → Type 0
TablesTell {K} o = (t : Table K) → Lawful o t → OneShown o t × ((budget : K) → T (o.budget budget) → Judges o t budget)

abbrev pub SupportsTell : {K : Type 0} → Operations K → Type 0
SupportsTell {K} o = (t : Table K) → Lawful o t → (Y : ℕ → Bool) → LawfulTreeOf t Y → (e : ℕ) → Supports o t e

abbrev pub FindingsTell : {K : Type 0} → Operations K → Type 0
FindingsTell {K} o =
    (t : Table K) (budget : K) (c : K) → Lawful o t → T (o.budget budget) → verdict_of o t budget ≡ verdict.Fits c → (e : ℕ) → Finds o t budget e

-- t' is t but for link e, whose ends stay unless one of the two has no such link: it was added, or has another mark or price.
pub record DifferAt {K : Type 0} (e : ℕ) (t t' : Table K) : Type 0 where
  pub same_points : t.points ≡ t'.points
  pub others : (k : ℕ) → (k ≢ e) → slice_get t.links k ≡ slice_get t'.links k
  pub same_ends : (l l' : Link K) → slice_get t.links e ≡ Some l → slice_get t'.links e ≡ Some l' → (l.first ≡ l'.first) × (l.second ≡ l'.second)

-- What becomes of the tree shown where one link is changed. Links that leave and enter come both or neither. No budget is named: it
-- moves nothing.
pub record Exchanges (e : ℕ) (X Y : ℕ → Bool) : Type 0 where
  pub one_leaves : AtMostOneLeaves X Y
  pub one_enters : AtMostOneLeaves Y X
  pub among_them : (a b : ℕ) → T (X a) → (T (Y a) → ⊥) → T (Y b) → (T (X b) → ⊥) → (a ≡ e) ⊎ (b ≡ e)
  pub left_then_entered : (a : ℕ) → T (X a) → (T (Y a) → ⊥) → (b : ℕ) × T (Y b) × (T (X b) → ⊥)
  pub entered_then_left : (b : ℕ) → T (Y b) → (T (X b) → ⊥) → (a : ℕ) × T (X a) × (T (Y a) → ⊥)

abbrev pub OneExchange : {K : Type 0} → Operations K → Type 0
OneExchange {K} o =
    (e : ℕ) (t t' : Table K) → Lawful o t → Lawful o t' → DifferAt e t t' → (X Y : ℕ → Bool) → TreeShown o t X → TreeShown o t' Y → Exchanges e X Y
