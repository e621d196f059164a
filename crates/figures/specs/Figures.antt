-- Worked figures: the verdict, the tree shown, the findings and the supports of a few small tables.
use Rattle.std.specs.Prelude.{◌≡◌, ℕ, Bool, List, [], ◌∷◌, Some, None, Option}
use Rattle.std.specs.List.{slice_get}
use Rattle.price.specs.Additive as additive
use Rattle.price.specs.Bottleneck as bottleneck
use Rattle.price.specs.Kind.{Operations}
use Rattle.table.specs.declared.verdicts.Finding.{Finding}
use Rattle.table.specs.declared.verdicts.Finding.TheVariants.{Out, Open, Forced}
use Rattle.table.specs.declared.verdicts.Verdict.{Verdict}
use Rattle.table.specs.declared.verdicts.Verdict.TheVariants.{Ring, Cut, Over, Fits}
use Rattle.table.specs.Findings.{FindingIs, SupportIs}
use Rattle.table.specs.Table.{Table}
use Rattle.table.specs.Trees.{TreeShown}
use Rattle.table.specs.Verdicts.{VerdictIs, verdict_of}
use Rattle.figures.specs.Sheets.{bytes, minus_one, drift, sheet_a, drift_a, ring_a, ring_and_cut_a, one_point, two_points, twins, tree_of_a, tree_of_twins}

module _ {K : Type 0} (o : Operations K) (t : Table K) where
  -- the verdict, by its definition and by computation
  pub record Settles (budget : K) (v : Verdict K) : Type 0 where
    pub is : VerdictIs o t budget v
    pub computed : verdict_of o t budget ≡ v

  -- the tree shown, and the only one
  pub record Shows (X : ℕ → Bool) : Type 0 where
    pub is : TreeShown o t X
    pub only : (Y : ℕ → Bool) → TreeShown o t Y → (k : ℕ) → Y k ≡ X k

  -- the findings of links 0, 1, 2 and so on, and their supports in the tree X
  abbrev pub FindingsAre : K → List Finding → Type 0
  FindingsAre budget fs = (e : ℕ) (f : Finding) → slice_get fs e ≡ Some f → FindingIs o t budget e f

  abbrev pub SupportsAre : (ℕ → Bool) → List (Option ℕ) → Type 0
  SupportsAre X ss = (e : ℕ) (s : Option ℕ) → slice_get ss e ≡ Some s → SupportIs o t X e s

pub record Figures : Type 0 where
  -- sheet A within 10 bytes, and within 8
  pub verdict_at10 : Settles additive.operations sheet_a (bytes 10) (Fits (bytes 9))
  pub tree : Shows additive.operations sheet_a tree_of_a
  pub findings_at10 : FindingsAre additive.operations sheet_a (bytes 10) (Open ∷ Forced ∷ Open ∷ Forced ∷ Out ∷ [])
  pub supports : SupportsAre additive.operations sheet_a tree_of_a (Some 2 ∷ Some 2 ∷ Some 0 ∷ None ∷ Some 1 ∷ [])
  pub verdict_at8 : Settles additive.operations sheet_a (bytes 8) (Over (bytes 9))
  -- as drift within 5, and within 4
  pub verdict_at_drift5 : Settles bottleneck.operations drift_a (drift 5) (Fits (drift 4))
  pub findings_at_drift5 : FindingsAre bottleneck.operations drift_a (drift 5) (Open ∷ Open ∷ Open ∷ Forced ∷ Out ∷ [])
  pub verdict_at_drift4 : Settles bottleneck.operations drift_a (drift 4) (Fits (drift 4))
  pub findings_at_drift4 : FindingsAre bottleneck.operations drift_a (drift 4) (Forced ∷ Forced ∷ Out ∷ Forced ∷ Out ∷ [])
  -- points without links
  pub one_point_at0 : Settles additive.operations one_point (bytes 0) (Fits (bytes 0))
  pub one_point_below0 : Settles additive.operations one_point minus_one (Over (bytes 0))
  pub two_points_at0 : Settles additive.operations two_points (bytes 0) (Cut 1)
  -- kept links that close a ring, also where point 3 is cut off
  pub ring : Settles additive.operations ring_a (bytes 10) (Ring 2)
  pub ring_before_cut : Settles additive.operations ring_and_cut_a (bytes 10) (Ring 2)
  -- two links between the same points at the same price: the smaller number is shown, and either may be left out
  pub twins_at5 : Settles additive.operations twins (bytes 5) (Fits (bytes 5))
  pub twins_tree : Shows additive.operations twins tree_of_twins
  pub twins_findings : FindingsAre additive.operations twins (bytes 5) (Open ∷ Open ∷ [])
