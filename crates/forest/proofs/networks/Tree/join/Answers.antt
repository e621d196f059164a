use Rattle.std.proofs.Common.{◌<◌, sym, subst}
use Rattle.spanning.specs.Joined.{Joined}
use Rattle.spanning.specs.Sets.{held}
use Rattle.forest.specs.Merges.{among, joins_of}
use Rattle.forest.specs.Readings.{links_of}
use Rattle.forest.proofs.GrowSteps.{first_in, second_in}
use Rattle.forest.proofs.PathJoins.{joined_more}
use Rattle.forest.proofs.networks.Tree.join.Goals as goal

pub returns : goal.returns
returns c = λ before S alone next old.
    let n = c.args.self.now.network.now in
    let g = links_of n in
    let l = c.args.link in
    let m = c.args.merges.now in
    let f = c.first.ensures in
    let s = c.second.ensures in
    let told = c.join.ensures in
    joined_more n before (held c.args.self.now.bits.now) S m c.join.new.self l alone next old c.join.result told.joins
    (λ q. subst (λ x. Joined g (among (joins_of m)) x (g.second l)) f (subst (λ y. Joined g (among (joins_of m)) c.first.result y) s (told.stale g old.remembers (subst (λ x. x < 1024) (sym f) (first_in n l)) (subst (λ x. x < 1024) (sym s) (second_in n l)) q)))
    (told.remembers g old.remembers (sym f) (sym s))
