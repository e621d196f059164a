use Rattle.std.proofs.Common.{◌+◌, sym, refl, ap, ◌∙◌, subst}
use Rattle.groups.specs.Groups.{GroupedTo, put_under}
use Rattle.groups.proofs.Putting.{grouped_none}
use Rattle.spanning.specs.Sets.{held}
use Rattle.forest.specs.LinkEnds.{with_end}
use Rattle.forest.specs.declared.rooted.links_by_end.ends.End.TheVariants.{First, Second}
use Rattle.forest.specs.Readings.{links_of}
use Rattle.forest.proofs.RootEnds.{bit_taken, bit_left}
use Rattle.forest.proofs.RootLinks.{grouped_held, grouped_left}
use Rattle.forest.proofs.rooted.links_by_end.LinksByEnd.new.Goals as goal
use Rattle.forest.proofs.rooted.links_by_end.LinksByEnd.new.Goals.{then-held, else-held}

pub loop-link-init : goal.loop-link-init
loop-link-init c =
    let first = with_end (links_of c.args.network.now) (held c.args.tree.now) First in
    let second = with_end (links_of c.args.network.now) (held c.args.tree.now) Second in
    record {
      by_first = subst (GroupedTo 1024 first 0) (sym c.new-firsts.ensures) (grouped_none 1024 2048 first);
      by_second = subst (GroupedTo 1024 second 0) (sym c.new-seconds.ensures) (grouped_none 1024 2048 second);
    }

pub loop-link-preserved : goal.loop-link-preserved
loop-link-preserved c =
    let g = links_of c.args.network.now in
    let X = held c.args.tree.now in
    let e = c.loop-link.link in
    let firsts = c.loop-link.firsts in
    let seconds = c.loop-link.seconds in
    let inv = c.loop-link.invariant in
    elim c.if-held.branch [
      | then-held w ↦
          let own = bit_taken X e e refl (w.if-held.true) in
          record {
            by_first = subst (GroupedTo 1024 (with_end g X First) (e + 1)) (sym (w.firsts-is ∙ w.put.ensures ∙ ap (λ k. put_under 1024 2048 firsts k e) w.first.ensures)) (grouped_held g X First e c.loop-link-test.true firsts inv.by_first own);
            by_second = subst (GroupedTo 1024 (with_end g X Second) (e + 1)) (sym (w.seconds-is ∙ w.put-then-held.ensures ∙ ap (λ k. put_under 1024 2048 seconds k e) w.second.ensures)) (grouped_held g X Second e c.loop-link-test.true seconds inv.by_second own);
          }
      | else-held w ↦
          let out = bit_left X e e refl (w.if-held.false) in
          record {
            by_first = subst (GroupedTo 1024 (with_end g X First) (e + 1)) (sym w.firsts-is) (grouped_left g X First e c.loop-link-test.true firsts inv.by_first out);
            by_second = subst (GroupedTo 1024 (with_end g X Second) (e + 1)) (sym w.seconds-is) (grouped_left g X Second e c.loop-link-test.true seconds inv.by_second out);
          }
    ]
