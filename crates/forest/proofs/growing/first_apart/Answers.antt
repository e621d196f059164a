use Rattle.std.proofs.Common.{◌≡◌, get_or, sym, ap, ◌∙◌, inl, inr, arith, rules}
use Rattle.spanning.specs.Roots.{root_of}
use Rattle.spanning.proofs.Climbs.{own_root}
use Rattle.spanning.proofs.Subsets.{same_or}
use Rattle.forest.proofs.GrowOrder.{cut_here, no_cut}
use Rattle.forest.proofs.growing.first_apart.Goals as goal

pub loop-x-preserved : goal.loop-x-preserved
loop-x-preserved c =
    let ps = c.args.parts.now.parents in
    let x = c.loop-x.x in
    let inv = c.loop-x.invariant in
    let here : root_of ps x ≡ 0 = sym (inv.0 x) ∙ sym c.find.ensures.value ∙ search rules in
    ((λ z. c.find.ensures.same z ∙ inv.0 z), (λ z l. elim (same_or z x) [ inl q ↦ ap (root_of ps) q ∙ here | inr n ↦ inv.1 z (omega arith) ]))

pub returns-then-find-ne0 : goal.returns-then-find-ne0
returns-then-find-ne0 c = λ rep.
    let n = c.args.network.now in
    let parts = c.args.parts.now in
    let x = c.loop-x.x in
    let inv = c.loop-x.invariant in
    let zero-root : get_or parts.parents 0 0 ≡ 0 = omega (arith, parts.lower 0) in
    cut_here n parts.parents parts.long rep (own_root parts.parents 0 zero-root) x (omega (arith, c.loop-x-test.true, c.points-x-end.ensures)) (λ q. absurd (c.if-find-ne0.true (c.find.ensures.value ∙ inv.0 x ∙ q))) inv.1

pub returns : goal.returns
returns c = λ rep.
    let n = c.args.network.now in
    let parts = c.args.parts.now in
    let inv = c.loop-x.invariant in
    let zero-root : get_or parts.parents 0 0 ≡ 0 = omega (arith, parts.lower 0) in
    no_cut n parts.parents parts.long rep (own_root parts.parents 0 zero-root) (λ z l. inv.1 z (omega (arith, c.loop-x-test.false, c.points-x-end.ensures)))
