use Rattle.std.proofs.Common.{◌≡◌, ◌∷◌, length, ap, arith}
use Rattle.groups.proofs.ChainItems.{items_first}
use Rattle.groups.proofs.walking.GroupIterator.next.Goals as goal

pub returns-clause-steps : goal.returns-clause-steps
returns-clause-steps c =
    let first = items_first c.self.inside.nexts.now c.self.invariant.0 c.in_ok-item.item (c.self.invariant.1.below c.in_ok-item.item c.in_ok-item.was) in
    let view = c.self.view_is in
    cc c.in_ok-item.was

pub returns-clause-goes : goal.returns-clause-goes
returns-clause-goes c =
    let step : c.args.self.now ≡ c.in_ok-item.item ∷ _ = returns-clause-steps c in
    let shorter = ap length step in
    record { on = λ _. (tt, tt, omega (arith, shorter)); keeps = tt; rests = λ _. tt }
