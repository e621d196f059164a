-- What a narrowing has in common with the table below, as a statement.
use Rattle.std.specs.Prelude.{◌≡◌, ℕ, ◌<◌, Bool, T, Some, None, Option}
use Rattle.price.specs.Kind.{Operations}
use Rattle.spanning.specs.Joined.{Joined, NoRing}
use Rattle.spanning.specs.Sets.{count}
use Rattle.table.specs.declared.verdicts.Verdict.{Verdict}
use Rattle.table.specs.declared.verdicts.Verdict.TheVariants as verdict
use Rattle.table.specs.declared.verdicts.Finding.TheVariants as finding
use Rattle.table.specs.Findings.{support_of, finding_of}
use Rattle.table.specs.Narrowed.{lowest_of, part_of, between, narrowed, number_below, point_below, lowered, lifted}
use Rattle.table.specs.Ranks.{ends, link_count, kept, free, before}
use Rattle.table.specs.Table.{Table, Lawful}
use Rattle.table.specs.Trees.{LawfulTreeOf, cost_of, shown}
use Rattle.table.specs.Verdicts.{verdict_of}

-- a support, by its number below
abbrev pub support_below : {K : Type 0} → Table K → Option ℕ → Option ℕ
support_below t None = None
support_below t (Some i) = Some (number_below t i)

-- a verdict, in the words of the table below: a part that is cut off is told by its lowest point
abbrev pub verdict_below : {K : Type 0} → Table K → Verdict K → Verdict K
verdict_below t (verdict.Ring l) = verdict.Ring (number_below t l)
verdict_below t (verdict.Cut p) = verdict.Cut (point_below t p)
verdict_below t (verdict.Over c) = verdict.Over c
verdict_below t (verdict.Fits c) = verdict.Fits c

-- Trees, costs, ranks, verdict, tree shown, findings and supports of a narrowing are those below, link by link.
pub record Narrows {K : Type 0} (o : Operations K) (t : Table K) : Type 0 where
  pub lawful : Lawful o (narrowed o t)
  pub all_free : (i : ℕ) → i < link_count (narrowed o t) → T (free (narrowed o t) i)
  pub ranks : (i j : ℕ) → i < link_count (narrowed o t) → j < link_count (narrowed o t) → before o (narrowed o t) i j ≡ before o t (number_below t i) (number_below t j)
  pub joined_above : (S : ℕ → Bool) (x y : ℕ) → Joined (ends t) (lowered t S) x y → Joined (ends (narrowed o t)) S (part_of t x) (part_of t y)
  pub joined_below : (S : ℕ → Bool) (x y : ℕ) → Joined (ends (narrowed o t)) S (part_of t x) (part_of t y) → Joined (ends t) (lowered t S) x y
  pub trees_below : (X : ℕ → Bool) → LawfulTreeOf (narrowed o t) X → LawfulTreeOf t (lowered t X)
  pub trees_above : (Y : ℕ → Bool) → LawfulTreeOf t Y → LawfulTreeOf (narrowed o t) (lifted t Y)
  pub round_trip : (Y : ℕ → Bool) → LawfulTreeOf t Y → (k : ℕ) → lowered t (lifted t Y) k ≡ Y k
  pub back_again : (X : ℕ → Bool) → LawfulTreeOf (narrowed o t) X → (i : ℕ) → lifted t (lowered t X) i ≡ X i
  -- each free link between parts has its number above, each point its part, and each part its lowest point
  pub numbered : (k : ℕ) → T (between t k) → (count (between t) k < link_count (narrowed o t)) × (number_below t (count (between t) k) ≡ k)
  pub part_below : (x : ℕ) → x < t.points → part_of t x < (narrowed o t).points
  pub lowest_point : (x : ℕ) → x < t.points → point_below t (part_of t x) ≡ lowest_of t x
  pub costs : (X : ℕ → Bool) → cost_of o (narrowed o t) X ≡ cost_of o t (lowered t X)
  pub verdict_same : (budget : K) → T (o.budget budget) → verdict_of o t budget ≡ verdict_below t (verdict_of o (narrowed o t) budget)
  pub tree_shown : (Y : ℕ → Bool) → LawfulTreeOf t Y → (k : ℕ) → shown o t k ≡ lowered t (shown o (narrowed o t)) k
  pub supports : (Y : ℕ → Bool) → LawfulTreeOf t Y → (i : ℕ) → i < link_count (narrowed o t) → support_of o t (number_below t i) ≡ support_below t (support_of o (narrowed o t) i)
  pub findings : (budget c : K) → T (o.budget budget) → verdict_of o t budget ≡ verdict.Fits c → (i : ℕ) → i < link_count (narrowed o t) → finding_of o t budget (number_below t i) ≡ finding_of o (narrowed o t) budget i
  -- a free link inside one part is out, without a support
  pub inside : (Y : ℕ → Bool) → LawfulTreeOf t Y → (k : ℕ) → T (free t k) → (T (between t k) → ⊥) → support_of o t k ≡ None
  pub inside_out : (budget c : K) → T (o.budget budget) → verdict_of o t budget ≡ verdict.Fits c → (k : ℕ) → T (free t k) → (T (between t k) → ⊥) → finding_of o t budget k ≡ finding.Out

abbrev pub NarrowingKeeps : {K : Type 0} → Operations K → Type 0
NarrowingKeeps {K} o = (t : Table K) → Lawful o t → NoRing (ends t) (kept t) → Narrows o t
