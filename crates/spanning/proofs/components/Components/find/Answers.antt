use Rattle.std.proofs.Common.{◌≡◌, ◌<◌, length, get_or, sym, refl, ap, ◌∙◌, arith, rules}
use Rattle.spanning.specs.Roots.{root_of}
use Rattle.spanning.proofs.Climbs.{root_past, root_grand, grand_lower, own_root}
use Rattle.spanning.proofs.components.Components.find.Goals as goal

pub returns-then-point-ge-POINTS : goal.returns-then-point-ge-POINTS
returns-then-point-ge-POINTS c = record { value = root_past c.args.self.now.parents c.args.self.now.lower c.args.point (search rules); same = λ z. refl }

pub loop-self-preserved : goal.loop-self-preserved
loop-self-preserved c =
    let old = c.args.self.now.parents in
    let ps = c.loop-self.self.parents in
    let forest = c.loop-self.self.lower in
    let at = c.loop-self.at in
    let inv = c.loop-self.invariant in
    let within : at < length ps = omega (arith, c.loop-self.self.long, inv.0) in
    let step : c.halve-at.result ≡ get_or ps (get_or ps at 0) 0 = c.halve-at.ensures.value in
    let below = grand_lower ps forest at within in (
      omega (arith, inv.0),
      (λ z. c.halve-at.ensures.same z ∙ inv.1 z),
      sym (inv.1 c.halve-at.result) ∙ ap (root_of ps) step ∙ root_grand ps forest at ∙ inv.1 at ∙ inv.2,
    )

pub returns : goal.returns
returns c =
    let ps = c.loop-self.self.parents in
    let at = c.loop-self.at in
    let inv = c.loop-self.invariant in
    let root : get_or ps at 0 ≡ at = search rules in
    record { value = sym (own_root ps at root) ∙ inv.1 at ∙ inv.2; same = inv.1 }
