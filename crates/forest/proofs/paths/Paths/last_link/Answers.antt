use Rattle.std.proofs.Common.{sym, ◌∙◌, subst}
use Rattle.spanning.specs.Sets.{held}
use Rattle.forest.specs.Growing.{free_of}
use Rattle.forest.specs.Paths.{LastFree}
use Rattle.forest.specs.Readings.{links_of}
use Rattle.forest.proofs.PathLast.{told_outside}
use Rattle.forest.proofs.paths.Paths.last_link.Goals as goal

pub returns : goal.returns
returns c = λ before of.
    let n = c.args.tree.now.network.now in
    let X = held c.args.tree.now.bits.now in
    let g = links_of n in
    let l = c.args.link in
    let r = c.last_free.result in
    let out = sym c.holds.ensures ∙ c.if-holds.false in
    let loose = sym c.is_free.ensures ∙ c.if-not-is_free.false in
    told_outside n X before l r out loose (subst (λ x. LastFree g (free_of n) before X x (g.second l) r) c.first.ensures (subst (λ y. LastFree g (free_of n) before X c.first.result y r) c.second.ensures (c.last_free.ensures X before of)))
