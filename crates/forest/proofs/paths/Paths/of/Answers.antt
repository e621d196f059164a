use Rattle.forest.proofs.paths.Paths.of.Goals as goal

pub returns : goal.returns
returns c = λ before listed alone.
    record { no_ring = alone; joined = c.join_free.ensures before listed alone (c.join_kept-merges.ensures before alone) }
