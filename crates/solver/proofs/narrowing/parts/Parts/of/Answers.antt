use Rattle.std.proofs.Common.{◌≡◌, ◌+◌, ◌≤◌, sym, ap, ◌∙◌, subst, arith}
use Rattle.spanning.specs.Roots.{root_of}
use Rattle.spanning.proofs.Climbs.{root_lower, leads, root_is_root, own_root}
use Rattle.solver.specs.Narrowing.{NumberedTo}
use Rattle.solver.proofs.narrowing.parts.Parts.of.Goals as goal

pub loop-point-preserved : goal.loop-point-preserved
loop-point-preserved c =
    let inv = c.loop-point.invariant in
    let x = c.loop-point.point in
    let now = c.loop-point.roots.parents in
    let forest = c.loop-point.roots.lower in
    let above = root_of c.args.roots.now.parents in
    let parts = c.loop-point.parts in
    let after = c.push.new.self in
    let root = c.find.result in
    let found : root ≡ above x = c.find.ensures.value ∙ inv.same x in
    let low : root_of now x ≤ x = root_lower now forest x (root_of now x) (leads now forest x) in
    let idle : above root ≡ root = sym (inv.same root) ∙ ap (root_of now) c.find.ensures.value ∙ own_root now (root_of now x) (root_is_root now forest x) ∙ sym c.find.ensures.value in
    record {
      same = λ z. c.find.ensures.same z ∙ inv.same z;
      long = c.push.ensures.long ∙ ap (λ n. n + 1) inv.long;
      numbered = subst (λ n. NumberedTo above (n + 1) after.numbers.items after.count) inv.long (c.push.ensures.numbered above (ap above inv.long ∙ sym found) (omega (arith, low, c.find.ensures.value, inv.long)) idle (subst (λ n. NumberedTo above n parts.numbers.items parts.count) (sym inv.long) inv.numbered));
    }
