use Rattle.std.proofs.Common.{refl}
use Rattle.forest.specs.Readings.{links_of}
use Rattle.forest.proofs.GrowSteps.{kept_none}
use Rattle.forest.proofs.growing.keep_all.Goals as goal

pub returns : goal.returns
returns c = c.keep.ensures.kept (kept_none c.args.network.now _ (c.new.ensures.represents (links_of c.args.network.now)) refl refl)
