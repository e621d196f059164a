use Rattle.std.proofs.Common.{◌≡◌, [], ◌∷◌, refl, rules}
use Rattle.forest.specs.Places.{root_place}
use Rattle.forest.proofs.RootPlaces.{agree_start, hung_start, lower_start, below_start}
use Rattle.forest.proofs.rooted.Rooted.start.Goals as goal

pub invariant_of-result : goal.invariant_of-result
invariant_of-result c =
    let one : c.push.new.self.items ≡ root_place ∷ [] = search rules in
    record { long = refl; root = refl; agree = agree_start c.push.new.self.items one; hung = hung_start c.push.new.self.items one; lower = lower_start c.push.new.self.items one; below = below_start c.push.new.self.items one }
