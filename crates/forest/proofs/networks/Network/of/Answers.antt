use Rattle.std.proofs.Common.{◌≡◌, ◌<◌, Some, ap, ◌∙◌, inl, inr, arith}
use Rattle.std.specs.List.{slice_get}
use Rattle.std.proofs.lemmas.List.{map_more}
use Rattle.std.proofs.lemmas.Option.{slice_get_cases, slice_get_within, get_or_from_slice_get}
use Rattle.forest.specs.Readings.{count_of, ends_in}
use Rattle.forest.proofs.networks.Network.of.Goals as goal
use Rattle.forest.proofs.networks.Network.of.Goals.{in-Some, in_default}

pub loop-number-preserved : goal.loop-number-preserved
loop-number-preserved g c =
    let t = g.L.LinkTable.meaning c.args.table.now in
    let i = c.loop-number.number in
    let inv = c.loop-number.invariant in
    elim c.match-link.branch [
      | in-Some w ↦
          let link = w.in-Some.link in
          let is : slice_get t.links i ≡ Some link = cc in
          let more = map_more ends_in t.links i link (slice_get_within t.links i link is) in
          let here = get_or_from_slice_get t.links i link link is in
          record {
            few = omega (arith, ap count_of w.network-is);
            points = λ lawful. cc (inv.points lawful);
            links = λ lawful.
                let good = lawful.each i link is in
                let first : w.from.result.first < c.loop-number.network.points = omega (arith, good.first_below, inv.points lawful, ap (λ e. e.first) w.from.ensures) in
                let second : w.from.result.second < c.loop-number.network.points = omega (arith, good.second_below, inv.points lawful, ap (λ e. e.second) w.from.ensures) in
                cc (w.push.ensures.added first second, inv.links lawful, more, here);
          }
      | in_default w ↦ record {
        few = omega (arith, ap count_of w.network-is);
        points = λ lawful. cc (inv.points lawful);
        links = λ lawful. elim (slice_get_cases t.links i).1 [ inl h ↦ absurd (w.in_default.not-Some h.0 (c.link.ensures ∙ h.2)) | inr h ↦ absurd (omega arith) ];
      }
    ]
