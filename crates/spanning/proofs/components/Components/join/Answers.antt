use Rattle.std.proofs.Common.{◌≡◌, ℕ, ◌<◌, min, max, length, get_or, sym, ◌∙◌, subst, arith, rules}
use Rattle.spanning.specs.Roots.{root_of, under}
use Rattle.spanning.proofs.Climbs.{root_is_root, root_within, two_roots}
use Rattle.spanning.proofs.Represented.{represents_joined}
use Rattle.spanning.proofs.components.Components.join.Goals as goal

pub hang-requires : goal.hang-requires
hang-requires c =
    let ps = c.find-b.new.self.parents in
    let forest = c.find-b.new.self.lower in
    let a-is : root_of ps c.args.first ≡ c.find-a.result = c.find-b.ensures.same c.args.first ∙ c.find-a.ensures.same c.args.first ∙ sym c.find-a.ensures.value in
    let b-is : root_of ps c.args.second ≡ c.find-b.result = c.find-b.ensures.same c.args.second ∙ sym c.find-b.ensures.value in
    let some : 0 < length ps = omega (arith, c.find-b.new.self.long) in
    let a-within = root_within ps forest some c.args.first in
    let b-within = root_within ps forest some c.args.second in
    let long = c.find-b.new.self.long in
    let two = two_roots ps 1024 c.find-a.result c.find-b.result (λ q. c.if-a-b.false q) (omega arith) (omega arith) (subst (λ y. get_or ps y 0 ≡ y) a-is (root_is_root ps forest c.args.first)) (subst (λ y. get_or ps y 0 ≡ y) b-is (root_is_root ps forest c.args.second)) in
    let low = c.min.ensures in
    let high = c.max.ensures in
    record { lower = omega (arith, two.less); within = omega (arith, two.within); low_root = subst (λ y. get_or ps y 0 ≡ y) (sym low) two.low_root; high_root = subst (λ y. get_or ps y 0 ≡ y) (sym high) two.high_root }

pub returns-then-a-b : goal.returns-then-a-b
returns-then-a-b c =
    let ps = c.args.self.now.parents in
    let now = c.find-b.new.self.parents in
    let after : (z : ℕ) → root_of now z ≡ under ps (min (root_of ps c.args.first) (root_of ps c.args.second)) (max (root_of ps c.args.first) (root_of ps c.args.second)) z = search rules in
    record { value = search rules; after = after; represents = represents_joined ps now c.args.self.now.long c.find-b.new.self.long c.args.first c.args.second after }

pub returns : goal.returns
returns c =
    let ps = c.args.self.now.parents in
    let now = c.hang.new.self.parents in
    let after : (z : ℕ) → root_of now z ≡ under ps (min (root_of ps c.args.first) (root_of ps c.args.second)) (max (root_of ps c.args.first) (root_of ps c.args.second)) z = search rules in
    record { value = search rules; after = after; represents = represents_joined ps now c.args.self.now.long c.hang.new.self.long c.args.first c.args.second after }
