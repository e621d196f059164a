use Rattle.std.proofs.Common.{refl, rules}
use Rattle.spanning.proofs.Climbs.{halved}
use Rattle.spanning.proofs.components.Components.halve.Goals as goal

pub returns : goal.returns
returns c = record { value = refl; same = halved c.args.self.now.parents c.args.self.now.lower c.args.point (search rules) }
