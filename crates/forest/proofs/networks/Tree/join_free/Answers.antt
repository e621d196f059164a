use Rattle.std.proofs.Common.{◌+◌, ◌<◌, length, T, get_or, sym, refl, subst}
use Rattle.spanning.specs.Sets.{held, with_link}
use Rattle.forest.specs.Paths.{JoinedByRank}
use Rattle.forest.proofs.PathJoins.{ranked_to, joined_same, ranked_next, ranked_with, ranked_skip, ranked_all}
use Rattle.forest.proofs.RootEnds.{bit_taken, bit_left}
use Rattle.forest.proofs.networks.Tree.join_free.Goals as goal
use Rattle.forest.proofs.networks.Tree.join_free.Goals.{then-holds, else-holds}

pub loop-link-preserved : goal.loop-link-preserved
loop-link-preserved c = λ before listed alone start.
    let n = c.args.self.now.network.now in
    let X = held c.args.self.now.bits.now in
    let order = c.args.order.now in
    let i = c.loop-link.link-index in
    let l = get_or order i 0 in
    let within : i < length order = c.loop-link-test.true in
    let S = ranked_to n X order i in
    let S' = ranked_to n X order (i + 1) in
    let old = c.loop-link.invariant before listed alone start in
    elim c.if-holds.branch [
      | then-holds w ↦
          let own : T (X l) = bit_taken X l l refl (sym w.if-holds.ensures) in
          subst (JoinedByRank n before S') (sym w.merges-is) (joined_same n before (with_link S l) S' w.join.new.merges (ranked_with n X order before listed.ranked listed.ordered i within own)
          (w.join.ensures before S alone (ranked_next n X order before listed.ranked listed.ordered i within own) old))
      | else-holds w ↦
          let out : T (X l) → ⊥ = bit_left X l l refl (sym w.if-holds.ensures) in
          subst (JoinedByRank n before S') (sym w.merges-is) (joined_same n before S S' c.loop-link.merges (ranked_skip n X order before listed.ranked listed.ordered i within out) old)
    ]

pub returns : goal.returns
returns c = λ before listed alone start.
    let n = c.args.self.now.network.now in
    let X = held c.args.self.now.bits.now in
    let order = c.args.order.now in
    let last = c.loop-link.link-index in
    joined_same n before (ranked_to n X order last) X c.loop-link.merges (ranked_all n X order before listed.ranked listed.ordered last c.loop-link-test.false) (c.loop-link.invariant before listed alone start)
