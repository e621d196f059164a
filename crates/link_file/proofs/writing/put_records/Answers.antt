use Rattle.std.proofs.Common.{◌≡◌, ℕ, ◌+◌, ◌-◌, ◌*◌, ◌++◌, ◌<◌, List, length, take, drop, None, sym, ap, ◌∙◌, arith}
use Rattle.std.proofs.lemmas.List.{length-take-le, take_all}
use Rattle.std.proofs.lemmas.Option.{slice_get_cases}
use Rattle.std.specs.List.{slice_get, flat_map}
use Rattle.link_file.specs.Format.{record_length, record_bytes}
use Rattle.link_file.proofs.Encoding.{length_joined}
use Rattle.link_file.proofs.Places.{next_piece}
use Rattle.link_file.proofs.writing.put_records.Goals as goal
use Rattle.link_file.proofs.writing.put_records.Goals.{in-Some, in_default}

within : {X : Type 0} (xs : List X) (i : ℕ) → i < length xs → slice_get xs i ≡ None → ⊥
within xs i h e = grind (arith, slice_get_cases)

pub loop-number-preserved : goal.loop-number-preserved
loop-number-preserved g c =
    let f = g.K.StorableKind.forms in
    let links = (g.L.LinkTable.meaning c.args.table.now).links in
    let i = c.loop-number.number in
    let old = c.args.out.now in
    let inside : i < length links = omega arith in
    elim c.match-link.branch [
      | in-Some w ↦
          let few = length-take-le i links (omega arith) in
          let long = length_joined g.K.PriceKind.operations f g.met.K.StorableKind.tied (take i links) ∙ ap (λ n. record_length * n) few in
          let piece = w.copy_from_slice.ensures.after ∙ w.record_bytes.ensures in
          let next = next_piece (record_bytes f) links i w.in-Some.link w.copy_from_slice.new.self old c.loop-number.out (record_length * i) record_length (record_length * i + record_length - record_length * i) (sym c.link.ensures ∙ w.in-Some.is) piece long (omega arith) c.loop-number.invariant in
          let place : record_length * i + record_length ≡ record_length * (i + 1) = omega arith in
          w.out-is ∙ next ∙ ap (λ n. flat_map (record_bytes f) (take (i + 1) links) ++ drop n old) place
      | in_default w ↦ absurd (within links i inside (sym c.link.ensures ∙ w.in_default.is))
    ]
