use Rattle.std.proofs.Common.{◌≡◌, ℕ, ◌<◌, cond, T, get_or, None, sym, ap, ◌∙◌, subst, arith, rules}
use native.Mathlib.Decide.{dec_lt}
use Rattle.std.proofs.lemmas.List.{get_or_past}
use Rattle.spanning.specs.Sets.{held}
use Rattle.spanning.proofs.Subsets.{or_right}
use Rattle.forest.specs.Growing.{kept_of, free_of, FreeInOrder}
use Rattle.forest.specs.Readings.{links_of}
use Rattle.forest.specs.Rooted.{Replaced}
use Rattle.forest.specs.Paths.{LastFree}
use Rattle.forest.proofs.GrowSteps.{no_use}
use Rattle.solver.specs.Sifting.{chosen}
use Rattle.solver.proofs.Arrays.{made_each}
use Rattle.solver.proofs.Tests.{is_true, is_false}
use Rattle.solver.proofs.solving.Solution.supports.Goals as goal

pub returns : goal.returns
returns c = λ before listed spans e.
    let s = c.args.self.now in
    let n = s.network in
    let X = held s.growth.tree in
    let order = s.order in
    let first = get_or c.replacements-first.result e None in
    let last = get_or c.last_links-last.result e None in
    let told = c.last_links-last.ensures before (subst (FreeInOrder n before) (sym c.as_slice.ensures.value) listed) spans.no_ring e in
    let replaced : T (X e) → Replaced (links_of n) X order e first = λ own. subst (λ xs. Replaced (links_of n) X xs e first) c.as_slice-2.ensures.value (c.replacements-first.ensures.first spans e own) in
    let each : (k : ℕ) → k < 2048 → get_or c.from_fn.result k None ≡ chosen (free_of n k) (X k) (get_or c.replacements-first.result k None) (get_or c.last_links-last.result k None) = λ k l. made_each _ _ (λ k. chosen (free_of n k) (X k) (get_or c.replacements-first.result k None) (get_or c.last_links-last.result k None)) 2048 (λ x y q w called. search rules) _ c.from_fn.ensures.items k None l in
    elim (dec_lt e 2048) [
      | yes l ↦
          let is = each e l in
          record {
            outside = λ f out. subst (LastFree (links_of n) (free_of n) before X ((links_of n).first e) ((links_of n).second e)) (sym (is ∙ ap (λ b. cond b (cond (X e) first last) None) (is_true (free_of n e) f) ∙ ap (λ b. cond b first last) (is_false (X e) out))) (told.outside f out);
            inside = λ f own. subst (Replaced (links_of n) X order e) (sym (is ∙ ap (λ b. cond b (cond (X e) first last) None) (is_true (free_of n e) f) ∙ ap (λ b. cond b first last) (is_true (X e) own))) (replaced own);
            not_free = λ out. is ∙ ap (λ b. cond b (cond (X e) first last) None) (is_false (free_of n e) out);
          }
      | no l ↦
          let barred : T (free_of n e) → ⊥ = λ f. subst T (no_use n e (omega (arith, n.short))) (or_right (kept_of n e) (free_of n e) f) in
          record {
            outside = λ f out. absurd (barred f);
            inside = λ f own. absurd (barred f);
            not_free = λ out. get_or_past c.from_fn.result e None (omega (arith, c.from_fn.ensures.items.long));
          }
    ]
