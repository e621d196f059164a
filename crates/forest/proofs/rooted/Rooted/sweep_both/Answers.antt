use Rattle.std.proofs.Common.{[], ◌∷◌, arith}
use Rattle.spanning.specs.Sets.{held}
use Rattle.forest.specs.Readings.{links_of}
use Rattle.forest.specs.declared.rooted.links_by_end.ends.End.TheVariants.{First, Second}
use Rattle.forest.proofs.RootSweep.{grown_refl, grown_then, ends_more}
use Rattle.forest.proofs.rooted.Rooted.sweep_both.Goals as goal

pub loop-end-init : goal.loop-end-init
loop-end-init c = record { grown = grown_refl c.args.self.now; linked = c.requires.linked; swept = λ i e l. absurd (omega arith) }

pub loop-end-preserved : goal.loop-end-preserved
loop-end-preserved c =
    let r = c.loop-end.self in
    let s = c.sweep.new.self in
    let inv = c.loop-end.invariant in
    let told = c.sweep.ensures in
    let more = inv.grown.more in
    record {
      grown = grown_then c.args.self.now r s inv.grown told.grown;
      linked = told.linked;
      swept = ends_more (links_of c.args.links.now.network.now) (held c.args.links.now.tree.now) (First ∷ Second ∷ []) r s c.args.at c.loop-end.end-index (omega arith) told.grown inv.swept told.swept;
    }

pub returns-clause-swept : goal.returns-clause-swept
returns-clause-swept c First e own near = let done = c.loop-end-test.false in c.loop-end.invariant.swept 0 e (omega arith) own near
returns-clause-swept c Second e own near = let done = c.loop-end-test.false in c.loop-end.invariant.swept 1 e (omega arith) own near
