use Rattle.std.proofs.Common.{◌≡◌, length, get_or, set, None, sym, ◌∙◌, subst, arith}
use native.Mathlib.Decide.{dec_lt}
use Rattle.std.proofs.lemmas.List.{get_or-set_same, get_or-set_other, get_or_append_left, length-take-le}
use Rattle.spanning.specs.Sets.{held}
use Rattle.forest.specs.Paths.{LastLink, ToldRightly}
use Rattle.forest.proofs.FrontPlaces.{none_after}
use Rattle.forest.proofs.PathLast.{told_past}
use Rattle.forest.proofs.paths.telling.last_links.Goals as goal

pub loop-link-init : goal.loop-link-init
loop-link-init c = λ k l. absurd (omega arith)

pub loop-link-preserved : goal.loop-link-preserved
loop-link-preserved c = λ k l.
    let told = ToldRightly c.args.tree.now c.of-paths.result in
    let items = c.loop-link.last-items in
    let i = c.loop-link.link in
    let last = c.last_link.result in
    elim (dec_lt k i) [
      | yes low ↦ subst (told k) (sym (get_or-set_other items i k last None (omega arith))) (c.loop-link.invariant k low)
      | no high ↦
          let here : k ≡ i = omega arith in
          subst (λ j. told j (get_or (set items i last) j None)) (sym here) (subst (told i) (sym (get_or-set_same items i last None (let less = c.loop-link-test.true in omega (arith, c.loop-link.auto.last-items)))) c.last_link.ensures)
    ]

pub returns : goal.returns
returns c = λ before listed alone k.
    let n = c.args.tree.now.network.now in
    let X = held c.args.tree.now.bits.now in
    let p = c.of-paths.result in
    let items = c.loop-link.last-items in
    let joined = c.of-paths.ensures before listed alone in
    let long : length items ≡ c.count.result = c.loop-link.auto.last-items ∙ length-take-le _ _ (omega (arith, n.short, c.count.ensures)) in
    elim (dec_lt k c.count.result) [
      | yes below ↦ subst (LastLink n X before k) (sym (get_or_append_left items _ None k (omega arith))) (c.loop-link.invariant k (omega arith) before joined)
      | no past ↦ subst (LastLink n X before k) (sym (none_after items c.count.result 2048 k long (omega arith))) (told_past n X before k (omega (arith, c.count.ensures)))
    ]
