use Rattle.std.proofs.Common.{◌≡◌, ◌≤◌, true, false, cond, T, ◌++◌, length, get_or, drop, None, sym, ap, ◌∙◌, subst, arith, rules}
use Rattle.std.proofs.lemmas.Grind.{common_steps}
use Rattle.spanning.specs.Sets.{held}
use Rattle.table.specs.Ranks.{link_count}
use Rattle.table.specs.Trees.{shown}
use Rattle.table.specs.Verdicts.{VerdictIs, verdict_of}
use Rattle.table.proofs.Judged.{judged_true}
use Rattle.solver.specs.Settling.{settle_refusal, unless_kept, has_tree, tree_bytes, tree_written}
use Rattle.solver.proofs.Admitted.{admitted}
use Rattle.solver.proofs.Written.{written_front}
use Rattle.solver.proofs.settling.settle.Goals as goal
use Rattle.solver.proofs.settling.settle.Goals.{then-has_tree, else-has_tree}

pub returns-clause-buffer : goal.returns-clause-buffer
returns-clause-buffer g c = λ lawful.
    let o = g.K.PriceKind.operations in
    let t = g.L.LinkTable.meaning c.args.table.now in
    let out = c.args.out.now in
    let budget = c.args.budget in
    let passed = admitted o c.link_count-count.result (length out) budget c.in_ok-admit.field-0 (sym c.admit.ensures ∙ c.in_ok-admit.was) in
    let room : link_count t ≤ length out = omega (arith, c.link_count-count.ensures, passed.0) in
    let limited : o.budget budget ≡ true = passed.1 in
    let e : settle_refusal o t budget (length out) ≡ None = grind (arith, common_steps) in
    let solved = c.of-solution.ensures lawful in
    let told = c.judge-verdict.ensures lawful solved in
    elim c.if-has_tree.branch [
      | then-has_tree w ↦
          let has : has_tree (verdict_of o t budget) ≡ true = ap has_tree (sym told) ∙ sym c.has_tree.ensures ∙ w.if-has_tree.true in
          let front : w.min-written.result ≡ link_count t = omega (arith, w.min-written.ensures, c.link_count-count.ensures, lawful.short) in
          w.out-is
          ∙ written_front (λ k. cond (shown o t k) 1 0) w.write_each.new.out out w.min-written.result (link_count t) front (omega arith) w.write_each.auto.out
          (λ k l. let each = w.write_each.ensures k 0 false l in let bit : get_or w.write_each.new.out k 0 ≡ cond (held c.of-solution.result.growth.tree k) 1 0 = search rules in bit ∙ ap (λ b. cond b 1 0) (solved.tree k))
          ∙ sym (ap (λ f. unless_kept f (tree_written o t budget out) out) e ∙ ap (λ b. cond b (tree_bytes (shown o t) (link_count t) ++ drop (link_count t) out) out) has)
      | else-has_tree w ↦
          let has : has_tree (verdict_of o t budget) ≡ false = ap has_tree (sym told) ∙ sym c.has_tree.ensures ∙ w.if-has_tree.false in
          w.out-is ∙ sym (ap (λ f. unless_kept f (tree_written o t budget out) out) e ∙ ap (λ b. cond b (tree_bytes (shown o t) (link_count t) ++ drop (link_count t) out) out) has)
    ]

pub returns-clause-law : goal.returns-clause-law
returns-clause-law g c = λ lawful v q.
    let o = g.K.PriceKind.operations in
    let t = g.L.LinkTable.meaning c.args.table.now in
    let limited : o.budget c.args.budget ≡ true = (admitted o c.link_count-count.result (length c.args.out.now) c.args.budget c.in_ok-admit.field-0 (sym c.admit.ensures ∙ c.in_ok-admit.was)).1 in
    let same : c.judge-verdict.result ≡ v = cc in
    subst (VerdictIs o t c.args.budget) (sym (c.judge-verdict.ensures lawful (c.of-solution.ensures lawful)) ∙ same) (judged_true o g.met.K.PriceKind.lawful t lawful c.args.budget (subst T (sym limited) tt))
