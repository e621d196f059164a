-- The figures, by computation.
use Rattle.std.proofs.Common.{◌≡◌, ℕ, zero, suc, ◌<◌, false, refl, arith}
use Rattle.price.specs.Additive as additive
use Rattle.price.specs.Bottleneck as bottleneck
use Rattle.price.specs.Maxima as maxima
use Rattle.price.specs.Sums as sums
use Rattle.table.specs.Table.{Lawful}
use Rattle.table.specs.Trees.{shown}
use Rattle.figures.specs.Figures.{Figures}
use Rattle.figures.specs.Sheets.{bytes, minus_one, drift, sheet_a, drift_a, ring_a, ring_and_cut_a, one_point, two_points, twins, tree_of_a, tree_of_twins}
use Rattle.figures.proofs.Tests.{lawful_by, settles, shows, findings, supports}

-- the trees shown, link by link
past_0 : (k : ℕ) → 0 < k → false ≡ tree_of_twins k
past_0 k l = grind arith

past_3 : (k : ℕ) → 3 < k → false ≡ tree_of_a k
past_3 k l = grind arith

shown_a : (k : ℕ) → shown additive.operations sheet_a k ≡ tree_of_a k
shown_a zero = refl
shown_a (suc zero) = refl
shown_a (suc (suc zero)) = refl
shown_a (suc (suc (suc zero))) = refl
shown_a (suc (suc (suc (suc zero)))) = refl
shown_a (suc (suc (suc (suc (suc k))))) = past_3 (suc (suc (suc (suc (suc k))))) (omega arith)

shown_twins : (k : ℕ) → shown additive.operations twins k ≡ tree_of_twins k
shown_twins zero = refl
shown_twins (suc zero) = refl
shown_twins (suc (suc k)) = past_0 (suc (suc k)) (omega arith)

lawful_a : Lawful additive.operations sheet_a
lawful_a = lawful_by additive.operations sheet_a tt refl

lawful_drift : Lawful bottleneck.operations drift_a
lawful_drift = lawful_by bottleneck.operations drift_a tt refl

lawful_one : Lawful additive.operations one_point
lawful_one = lawful_by additive.operations one_point tt refl

lawful_twins : Lawful additive.operations twins
lawful_twins = lawful_by additive.operations twins tt refl

pub worked : Figures
worked = record {
  verdict_at10 = settles additive.operations sums.lawful sheet_a lawful_a (bytes 10) tt refl;
  tree = shows additive.operations sums.lawful sheet_a lawful_a (bytes 10) (bytes 9) tt refl shown_a;
  findings_at10 = findings additive.operations sums.lawful sheet_a lawful_a (bytes 10) (bytes 9) tt refl 5 refl;
  supports = supports additive.operations sums.lawful sheet_a lawful_a shown_a 5 refl;
  verdict_at8 = settles additive.operations sums.lawful sheet_a lawful_a (bytes 8) tt refl;
  verdict_at_drift5 = settles bottleneck.operations maxima.lawful drift_a lawful_drift (drift 5) tt refl;
  findings_at_drift5 = findings bottleneck.operations maxima.lawful drift_a lawful_drift (drift 5) (drift 4) tt refl 5 refl;
  verdict_at_drift4 = settles bottleneck.operations maxima.lawful drift_a lawful_drift (drift 4) tt refl;
  findings_at_drift4 = findings bottleneck.operations maxima.lawful drift_a lawful_drift (drift 4) (drift 4) tt refl 5 refl;
  one_point_at0 = settles additive.operations sums.lawful one_point lawful_one (bytes 0) tt refl;
  one_point_below0 = settles additive.operations sums.lawful one_point lawful_one minus_one tt refl;
  two_points_at0 = settles additive.operations sums.lawful two_points (lawful_by additive.operations two_points tt refl) (bytes 0) tt refl;
  ring = settles additive.operations sums.lawful ring_a (lawful_by additive.operations ring_a tt refl) (bytes 10) tt refl;
  ring_before_cut = settles additive.operations sums.lawful ring_and_cut_a (lawful_by additive.operations ring_and_cut_a tt refl) (bytes 10) tt refl;
  twins_at5 = settles additive.operations sums.lawful twins lawful_twins (bytes 5) tt refl;
  twins_tree = shows additive.operations sums.lawful twins lawful_twins (bytes 5) (bytes 5) tt refl shown_twins;
  twins_findings = findings additive.operations sums.lawful twins lawful_twins (bytes 5) (bytes 5) tt refl 2 refl;
}
