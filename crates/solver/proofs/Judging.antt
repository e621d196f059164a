-- The verdict, from the ring, the cut and the total of the tree.
use Rattle.std.proofs.Common.{◌≡◌, ℕ, Bool, true, false, cond, T, None, sym, ap, ◌∙◌, subst}
use mathlib.Core.Path.{fun_ext}
use Rattle.price.specs.Kind.{Operations, Laws}
use Rattle.spanning.specs.Joined.{NoRing}
use Rattle.table.specs.declared.verdicts.Verdict.TheVariants as verdict
use Rattle.table.specs.Ranks.{ends, usable}
use Rattle.table.specs.Table.{Table, Lawful}
use Rattle.table.specs.Trees.{TreeShown, cost_of, shown}
use Rattle.table.specs.Verdicts.{LeastCost, VerdictIs, verdict_of, ring_link, cut_point, least_cost, judged}
use Rattle.table.proofs.Graphs as graphs
use Rattle.table.proofs.Judged.{judged_true}
use Rattle.table.proofs.Shown.{is_shown_lem}

module _ {K : Type 0} (o : Operations K) (laws : Laws o) (t : Table K) (lawful : Lawful o t) (no_ring_lem : ring_link t ≡ None) (no_cut : cut_point t ≡ None) where
  -- the verdict is by the least cost alone
  pub by_cost : (budget : K) → verdict_of o t budget ≡ cond (o.not_above (least_cost o t) budget) (verdict.Fits (least_cost o t)) (verdict.Over (least_cost o t))
  by_cost budget = ap (λ r. judged r (cut_point t) (least_cost o t) (o.not_above (least_cost o t) budget)) no_ring_lem ∙ ap (λ c. judged None c (least_cost o t) (o.not_above (least_cost o t) budget)) no_cut

  least_by : (b : Bool) → VerdictIs o t o.zero (cond b (verdict.Fits (least_cost o t)) (verdict.Over (least_cost o t))) → LeastCost o t (least_cost o t)
  least_by true h = h.0
  least_by false h = h.0

  -- so there is a tree shown
  pub shown_tree_lem : TreeShown o t (shown o t)
  shown_tree_lem =
      let least = least_by (o.not_above (least_cost o t) o.zero) (subst (VerdictIs o t o.zero) (by_cost o.zero) (judged_true o laws t lawful o.zero laws.zero_budget)) in
      let tree = least.is_shown.lawful in
      is_shown_lem o laws t lawful (graphs.no_ring_lem o laws t lawful least.tree tree) (graphs.all_joined_lem o laws t lawful least.tree tree)

  -- the total of its links is the least cost
  pub shown_total : (X : ℕ → Bool) → ((k : ℕ) → X k ≡ shown o t k) → (total : K) → (((k : ℕ) → T (X k) → T (usable t k)) → NoRing (ends t) X → total ≡ cost_of o t X) → total ≡ least_cost o t
  shown_total X same total exact =
      let alike : X ≡ shown o t = fun_ext same in
      let tree = shown_tree_lem.lawful in
      exact (subst (λ Y. (k : ℕ) → T (Y k) → T (usable t k)) (sym alike) tree.no_barred) (subst (NoRing (ends t)) (sym alike) tree.no_ring) ∙ ap (cost_of o t) alike

  pub fits_with : (budget total : K) → total ≡ least_cost o t → o.not_above total budget ≡ true → verdict.Fits total ≡ verdict_of o t budget
  fits_with budget total e b = sym (by_cost budget ∙ ap (λ c. cond (o.not_above c budget) (verdict.Fits c) (verdict.Over c)) (sym e) ∙ ap (λ x. cond x (verdict.Fits total) (verdict.Over total)) b)

  pub over_with : (budget total : K) → total ≡ least_cost o t → o.not_above total budget ≡ false → verdict.Over total ≡ verdict_of o t budget
  over_with budget total e b = sym (by_cost budget ∙ ap (λ c. cond (o.not_above c budget) (verdict.Fits c) (verdict.Over c)) (sym e) ∙ ap (λ x. cond x (verdict.Fits total) (verdict.Over total)) b)
