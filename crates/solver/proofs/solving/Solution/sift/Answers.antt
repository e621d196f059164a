use Rattle.std.proofs.Common.{◌≡◌, ℕ, ◌<◌, false, get_or, None, sym, ap, ◌∙◌, subst, rules}
use mathlib.Core.Path.{fun_ext}
use Rattle.spanning.specs.Joined.{Joined, NoRing}
use Rattle.spanning.specs.Sets.{held}
use Rattle.table.specs.Findings.{support_of}
use Rattle.table.specs.Ranks.{ends, before}
use Rattle.table.specs.Trees.{LawfulTreeOf, shown}
use Rattle.table.specs.Verdicts.{LeastCost, VerdictIs}
use Rattle.table.proofs.Judged.{judged_true}
use Rattle.table.proofs.Shown.{sole}
use Rattle.forest.specs.Networks.{link_at}
use Rattle.forest.specs.Trees.{SpansWithoutRing}
use Rattle.forest.proofs.ReadTables as read
use Rattle.ranking.specs.Totals.{SwapsAnswered}
use Rattle.solver.specs.declared.sifting.Sifted.{Sifted}
use Rattle.solver.specs.Sifting.{swap_for, judged_link, SupportedBy}
use Rattle.solver.proofs.Arrays.{made_each}
use Rattle.solver.proofs.Sifts.{support_told, finding_told}
use Rattle.solver.proofs.solving.Solution.sift.Goals as goal

pub returns : goal.returns
returns g c = λ lawful solved limited cost fits e d l.
    let o = g.K.PriceKind.operations in
    let laws = g.met.K.PriceKind.lawful in
    let t = g.L.LinkTable.meaning c.args.table.now in
    let s = c.args.self.now in
    let n = s.network in
    let reads = solved.reads in
    let order = s.order in
    let budget = c.args.budget in
    let X = shown o t in
    let supports = c.supports-supports.result in
    let within = c.swaps_within-within.result in
    let same : held s.growth.tree ≡ X = fun_ext solved.tree in
    let least : LeastCost o t cost = (subst (VerdictIs o t budget) fits (judged_true o laws t lawful budget limited)).0 in
    let tree : LawfulTreeOf t X = subst (LawfulTreeOf t) (fun_ext (sole o laws t lawful least.tree least.is_shown)) least.is_shown.lawful in
    let spans : SpansWithoutRing n (held s.growth.tree) = record {
      joins_all = λ x lx. subst (λ h. Joined h (held s.growth.tree) 0 x) (sym (read.same_graph t n reads)) (subst (λ Y. Joined (ends t) Y 0 x) (sym same) (tree.joins_all x (subst (λ p. x < p) reads.points lx)));
      no_ring = subst (λ h. NoRing h (held s.growth.tree)) (sym (read.same_graph t n reads)) (subst (NoRing (ends t)) (sym same) tree.no_ring);
    } in
    let supported = c.supports-supports.ensures (before o t) (read.in_order t n reads o laws lawful order solved.ordered) spans e in
    let told : get_or supports e None ≡ support_of o t e = support_told o laws t lawful n reads order solved.ordered e (get_or supports e None) (subst (λ Y. SupportedBy n Y (before o t) order e (get_or supports e None)) same supported) in
    let swap_is = c.swaps-swaps.ensures e l ∙ ap (λ Y. swap_for (Y e) e (get_or supports e None)) same ∙ ap (swap_for (X e) e) told in
    let answered : SwapsAnswered o t X c.swaps-swaps.result budget within = subst (λ Y. SwapsAnswered o t Y c.swaps-swaps.result budget within) same c.swaps_within-within.ensures.swapped in
    let judged : ℕ → Sifted = λ k. record { finding = judged_link (link_at n.links.items k).role (held s.growth.tree k) (get_or supports k None) (get_or within k false); support = get_or supports k None } in
    made_each _ _ judged 2048 (λ x y q w called. search rules) _ c.from_fn.ensures.items e d l
    ∙ ap (λ Y. record { finding = judged_link (link_at n.links.items e).role (Y e) (get_or supports e None) (get_or within e false); support = get_or supports e None }) same
    ∙ ap (λ r. record { finding = judged_link (link_at n.links.items e).role (X e) r (get_or within e false); support = r }) told
    ∙ ap (λ f. record { finding = f; support = support_of o t e }) (finding_told o laws t lawful n reads order solved.ordered tree budget c.swaps-swaps.result within answered e swap_is)
