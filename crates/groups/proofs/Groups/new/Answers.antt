use Rattle.groups.proofs.ChainItems.{no_lists}
use Rattle.groups.proofs.Groups.new.Goals as goal

pub returns : goal.returns
returns g c = let e = no_lists g.row.KEYS g.row.ITEMS in cc
