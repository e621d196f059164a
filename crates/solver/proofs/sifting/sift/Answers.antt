use Rattle.std.proofs.Common.{◌≡◌, ℕ, ◌<◌, ◌≤◌, min, true, T, List, length, get_or, take, None, sym, ap, ◌∙◌, subst, arith, rules}
use Rattle.std.proofs.lemmas.Grind.{common_steps}
use Rattle.std.proofs.lemmas.List.{length-take-le}
use Rattle.table.specs.declared.verdicts.Finding.TheVariants as outcome
use Rattle.table.specs.Findings.{finding_number, finding_of, support_of}
use Rattle.table.specs.Ranks.{link_count}
use Rattle.table.specs.Verdicts.{LeastCost, VerdictIs}
use Rattle.table.proofs.Finds.{finds, supports}
use Rattle.table.proofs.Judged.{judged_true}
use Rattle.solver.specs.declared.sifting.Sifted.{Sifted}
use Rattle.solver.specs.Settling.{unless_kept}
use Rattle.solver.specs.Sifting.{support_number, sift_refusal, findings_written, supports_written}
use Rattle.solver.proofs.Admitted.{admitted}
use Rattle.solver.proofs.Written.{written_front}
use Rattle.solver.proofs.sifting.sift.Goals as goal

abbrev blank : Sifted
blank = record { finding = outcome.Out; support = None }

within : (k m c : ℕ) (out : List ℕ) → m ≤ length out → k < length (take m out) → m ≡ min c 2048 → k < 2048
within k m c out room l e = let taken = length-take-le m out room in omega arith

pub returns-clause-told : goal.returns-clause-told
returns-clause-told g c = λ lawful.
    let o = g.K.PriceKind.operations in
    let t = g.L.LinkTable.meaning c.args.table.now in
    let budget = c.args.budget in
    let found = c.args.findings.now in
    let m = c.min-written.result in
    let passed = admitted o c.link_count-count.result c.min.result budget c.in_ok-admit.field-0 (sym c.admit.ensures ∙ c.in_ok-admit.was) in
    let limited : o.budget budget ≡ true = passed.1 in
    let few : link_count t ≤ length c.args.findings.now = omega (arith, c.link_count-count.ensures, c.min.ensures, passed.0) in
    let room-for : link_count t ≤ length c.args.supports.now = omega (arith, c.link_count-count.ensures, c.min.ensures, passed.0) in
    let room : m ≤ length found = omega (arith, c.min-written.ensures, few, c.link_count-count.ensures) in
    let same : m ≡ link_count t = omega (arith, c.min-written.ensures, c.link_count-count.ensures, lawful.short) in
    let fits = sym (c.judge.ensures lawful (c.of-solution.ensures lawful)) ∙ c.in_ok-fits.ensures.cost in
    let granted : sift_refusal o t budget (length found) (length c.args.supports.now) ≡ None = grind (arith, common_steps) in
    written_front (λ k. finding_number (finding_of o t budget k)) c.write_each.new.out found m (link_count t) same room c.write_each.auto.out
    (λ k l.
    let here = c.write_each.ensures k 0 blank l in
    let read : get_or c.write_each.new.out k 0 ≡ finding_number (get_or c.sift-sifted.result k blank).finding = search rules in
    let low : k < 2048 = within k m c.link_count-count.result found room l c.min-written.ensures in
    read ∙ ap (λ s. finding_number s.finding) (c.sift-sifted.ensures lawful (c.of-solution.ensures lawful) (subst T (sym limited) tt) c.in_ok-fits.field-0 fits k blank low))
    ∙ sym (ap (λ f. unless_kept f (findings_written o t budget found) found) granted)

pub returns-clause-held : goal.returns-clause-held
returns-clause-held g c = λ lawful.
    let o = g.K.PriceKind.operations in
    let t = g.L.LinkTable.meaning c.args.table.now in
    let budget = c.args.budget in
    let told = c.args.supports.now in
    let m = c.min-written.result in
    let passed = admitted o c.link_count-count.result c.min.result budget c.in_ok-admit.field-0 (sym c.admit.ensures ∙ c.in_ok-admit.was) in
    let limited : o.budget budget ≡ true = passed.1 in
    let few : link_count t ≤ length c.args.findings.now = omega (arith, c.link_count-count.ensures, c.min.ensures, passed.0) in
    let room-for : link_count t ≤ length c.args.supports.now = omega (arith, c.link_count-count.ensures, c.min.ensures, passed.0) in
    let room : m ≤ length told = omega (arith, c.min-written.ensures, room-for, c.link_count-count.ensures) in
    let same : m ≡ link_count t = omega (arith, c.min-written.ensures, c.link_count-count.ensures, lawful.short) in
    let fits = sym (c.judge.ensures lawful (c.of-solution.ensures lawful)) ∙ c.in_ok-fits.ensures.cost in
    let granted : sift_refusal o t budget (length c.args.findings.now) (length told) ≡ None = grind (arith, common_steps) in
    written_front (λ k. support_number (support_of o t k)) c.write_each-2.new.out told m (link_count t) same room c.write_each-2.auto.out
    (λ k l.
    let here = c.write_each-2.ensures k 0 blank l in
    let read : get_or c.write_each-2.new.out k 0 ≡ support_number (get_or c.sift-sifted.result k blank).support = search rules in
    let low : k < 2048 = within k m c.link_count-count.result told room l c.min-written.ensures in
    read ∙ ap (λ s. support_number s.support) (c.sift-sifted.ensures lawful (c.of-solution.ensures lawful) (subst T (sym limited) tt) c.in_ok-fits.field-0 fits k blank low))
    ∙ sym (ap (λ f. unless_kept f (supports_written o t told) told) granted)

pub returns-clause-law : goal.returns-clause-law
returns-clause-law g c = λ lawful q e.
    let o = g.K.PriceKind.operations in
    let laws = g.met.K.PriceKind.lawful in
    let t = g.L.LinkTable.meaning c.args.table.now in
    let budget = c.args.budget in
    let cost = c.in_ok-fits.field-0 in
    let passed = admitted o c.link_count-count.result c.min.result budget c.in_ok-admit.field-0 (sym c.admit.ensures ∙ c.in_ok-admit.was) in
    let limited : T (o.budget budget) = subst T (sym passed.1) tt in
    let fits = sym (c.judge.ensures lawful (c.of-solution.ensures lawful)) ∙ c.in_ok-fits.ensures.cost in
    let least : LeastCost o t cost = (subst (VerdictIs o t budget) fits (judged_true o laws t lawful budget limited)).0 in
    ((finds o laws t lawful budget cost limited fits e).finding, supports o laws t lawful least.tree least.is_shown.lawful e)
