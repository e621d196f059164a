use Rattle.std.proofs.Common.{◌≡◌, Some, sym, ◌∙◌}
use Rattle.forest.specs.Merges.{hang_of, join_count}
use Rattle.forest.proofs.MergeRoots.{own_root, root_of_parent}
use Rattle.forest.proofs.MergeLast.{fewer}
use Rattle.forest.proofs.merges.Merges.root.Goals as goal

pub loop-hang-smaller : goal.loop-hang-smaller
loop-hang-smaller c = fewer c.args.self.now c.loop-hang.at c.in-Some.hang cc

pub loop-hang-preserved : goal.loop-hang-preserved
loop-hang-preserved c =
    let m = c.args.self.now in
    let at = c.loop-hang.at in
    let h = c.in-Some.hang in
    let is : hang_of m at ≡ Some h = cc in
    record {
      within = m.parent_is_point at h is;
      one_root = root_of_parent (hang_of m) (join_count m) at h is (λ above up. m.rises at h above is up) (m.hung_by_join at h is) ∙ c.loop-hang.invariant.one_root;
    }

pub returns-clause-value : goal.returns-clause-value
returns-clause-value c =
    let m = c.args.self.now in
    sym (own_root (hang_of m) (join_count m) c.loop-hang.at (λ h is. absurd (c.in_default.not-Some h (c.hang_of.ensures ∙ is)))) ∙ c.loop-hang.invariant.one_root
