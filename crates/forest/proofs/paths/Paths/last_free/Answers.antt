use Rattle.std.proofs.Common.{◌≡◌, rules}
use Rattle.forest.specs.Growing.{free_of}
use Rattle.forest.specs.Readings.{links_of}
use Rattle.forest.proofs.PathLast.{last_if_free}
use Rattle.forest.proofs.paths.Paths.last_free.Goals as goal

pub returns : goal.returns
returns c = λ X before of.
    let n = c.args.network.now in
    last_if_free n X before c.args.self.now of c.args.first c.args.second _ (λ l b ret. (let tells : b ≡ free_of n l = search rules in tells)) c.last_between.result c.filter.result (c.last_between.ensures (links_of n) of.joined.remembers) c.filter.ensures
