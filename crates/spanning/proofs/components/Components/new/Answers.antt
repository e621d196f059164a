use Rattle.std.proofs.Common.{◌≡◌, ℕ, ◌<◌, slice_index, arith, rules}
use Rattle.std.proofs.lemmas.List.{get_or_past}
use Rattle.spanning.proofs.Climbs.{own_root, own_forest}
use Rattle.spanning.specs.Roots.{root_of}
use Rattle.spanning.proofs.Represented.{represents_none}
use Rattle.spanning.proofs.components.Components.new.Goals as goal

pub invariant_of-result : goal.invariant_of-result
invariant_of-result c =
    let long = c.from_fn.ensures.items.long in
    let self : (x : ℕ) → x < 1024 → slice_index c.from_fn.result x ≡ x = λ x h. let k = c.from_fn.ensures.items.at x 0 h in search rules in
    record { long = long; lower = own_forest c.from_fn.result 1024 self (λ x h. get_or_past c.from_fn.result x 0 (omega (arith, long))) }

pub returns : goal.returns
returns c =
    let ps = c.from_fn.result in
    let self : (x : ℕ) → x < 1024 → slice_index ps x ≡ x = λ x h. let k = c.from_fn.ensures.items.at x 0 h in search rules in
    let own : (z : ℕ) → z < 1024 → root_of ps z ≡ z = λ z l. own_root ps z (self z l) in
    record { roots = own; represents = λ g. represents_none ps g (λ z l. own z (omega (arith, c.from_fn.ensures.items.long))) }
