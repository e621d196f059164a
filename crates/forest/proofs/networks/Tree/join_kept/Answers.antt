use Rattle.std.proofs.Common.{◌≡◌, ◌+◌, false, not, T, length, get_or, take, sym, refl, ◌∙◌, subst, arith}
use Rattle.std.proofs.lemmas.List.{get_or-take, length-take}
use Rattle.spanning.proofs.Subsets.{and_left, and_right, not_to}
use Rattle.spanning.specs.Sets.{held, with_link}
use Rattle.forest.specs.Growing.{free_of}
use Rattle.forest.specs.Paths.{JoinedByRank, rest_of}
use Rattle.forest.proofs.PathJoins.{rest_below, joined_same, rest_next, rest_with, rest_skip, rest_all}
use Rattle.forest.proofs.RootEnds.{bit_taken, bit_left, held_within}
use Rattle.forest.proofs.networks.Tree.join_kept.Goals as goal
use Rattle.forest.proofs.networks.Tree.join_kept.Goals.{then-held+then-not-is_free, else-held, else-held-via-then-held+else-not-is_free, else-held-via-else-held}

pub loop-link-preserved : goal.loop-link-preserved
loop-link-preserved c = λ before alone.
    let n = c.args.self.now.network.now in
    let X = held c.args.self.now.bits.now in
    let i = c.loop-link.link in
    let bits = c.args.self.now.bits.now in
    let bit : get_or (take c.count.result bits) i false ≡ X i = get_or-take c.count.result bits i false (let less = c.loop-link-test.true in omega (arith, length-take c.count.result bits)) in
    let S = rest_below n X i in
    let S' = rest_below n X (i + 1) in
    let old = c.loop-link.invariant before alone in
    elim c.if-held.branch [
      | then-held+then-not-is_free w ↦
          let own : T (X i) = bit_taken X i i refl (sym bit ∙ w.if-held.true) in
          let out : T (free_of n i) → ⊥ = bit_left (free_of n) i i refl (sym w.if-not-is_free.ensures) in
          subst (JoinedByRank n before S') (sym w.merges-is) (joined_same n before (with_link S i) S' w.join.new.merges (rest_with n X i own out) (w.join.ensures before S alone (rest_next n X before i own) old))
      | else-held w ↦
          let skipped : T (rest_of n X i) → ⊥ = elim w.else-held.branch [
            | else-held-via-then-held+else-not-is_free w' ↦ let free : T (free_of n i) = bit_taken (free_of n) i i refl (sym w'.if-not-is_free.ensures) in (λ t. not_to (free_of n i) (and_right (X i) (not (free_of n i)) t) free)
            | else-held-via-else-held w' ↦ let out : T (X i) → ⊥ = bit_left X i i refl (sym bit ∙ w'.if-held.false) in (λ t. out (and_left (X i) (not (free_of n i)) t))
          ] in
          subst (JoinedByRank n before S') (sym w.merges-is) (joined_same n before S S' c.loop-link.merges (rest_skip n X i skipped) old)
    ]

pub returns : goal.returns
returns c = λ before alone.
    let n = c.args.self.now.network.now in
    let bits = c.args.self.now.bits.now in
    let X = held bits in
    joined_same n before (rest_below n X c.loop-link.link) (rest_of n X) c.loop-link.merges (rest_all n X alone c.loop-link.link (λ k own less. let past = c.loop-link-test.false in omega (arith, length-take c.count.result bits, held_within bits (length bits) k refl own, c.count.ensures))) (c.loop-link.invariant before alone)
