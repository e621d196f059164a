use Rattle.std.proofs.Common.{◌≡◌, get_or, slice_set, sym, refl, subst, arith}
use native.Mathlib.Decide.{dec_lt}
use Rattle.std.proofs.lemmas.Grind.{common_steps}
use Rattle.std.proofs.lemmas.Fn.{says_at}
use Rattle.std.specs.Fn.{FnReturnsAt}
use Rattle.solver.proofs.writing.write_each.Goals as goal

pub loop-number-preserved : goal.loop-number-preserved
loop-number-preserved g c = λ k d e l.
    let out = c.loop-number.out in
    let i = c.loop-number.number in
    let items = c.args.items.now in
    let made = c.told.result in
    elim (dec_lt k i) [
      | yes low ↦
          let stays : get_or (slice_set out i made) k d ≡ get_or out k d = grind (arith, common_steps) in
          subst (λ y. FnReturnsAt g.F.Fn c.args.told (get_or items k e) y) (sym stays) (c.loop-number.invariant k d e low)
      | no high ↦
          let here : k ≡ i = omega arith in
          let set : get_or (slice_set out i made) k d ≡ made = grind (arith, common_steps) in
          let at : c.index-items-number.result ≡ get_or items k e = grind (arith, common_steps) in
          let is : FnReturnsAt g.F.Fn c.args.told (get_or items k e) made = subst (λ x. FnReturnsAt g.F.Fn c.args.told x made) at (says_at g.F.Fn c.told.ensures refl) in
          subst (λ y. FnReturnsAt g.F.Fn c.args.told (get_or items k e) y) (sym set) is
    ]
