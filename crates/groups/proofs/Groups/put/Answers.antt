use Rattle.groups.proofs.Putting.{put_in_memory}
use Rattle.groups.proofs.Groups.put.Goals as goal

pub returns-then-self-place : goal.returns-then-self-place
returns-then-self-place g c = rw (← c.self.view_is) (put_in_memory g.row.KEYS g.row.ITEMS c.self.inside.least c.self.inside.heads c.self.inside.nexts c.self.invariant c.self.told c.self.told2 c.args.key c.args.item c.if-key.true c.if-place.true c.if-self-place.true)
