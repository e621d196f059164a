use Rattle.std.proofs.Common.{rules}
use Rattle.spanning.proofs.Climbs.{linked}
use Rattle.spanning.proofs.components.Components.hang.Goals as goal

pub returns : goal.returns
returns c = linked c.args.self.now.parents c.args.self.now.lower c.args.low c.args.high c.requires.lower (search rules) c.requires.low_root c.requires.high_root
