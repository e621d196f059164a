use Rattle.std.proofs.Common.{◌≡◌, ◌+◌, ◌*◌, ◌<◌, ◌≤◌, ◌++◌, length, take, drop, Ok, sym, ap, ◌∙◌, subst, arith}
use Rattle.std.proofs.lemmas.List.{take-append-drop, take_at}
use Rattle.std.specs.List.{flat_map}
use Rattle.link_file.specs.Format.{header_length, record_length, record_bytes, header_bytes, file_bytes}
use Rattle.link_file.specs.Reading.{Stored}
use Rattle.link_file.proofs.Encoding.{length_file, stored}
use Rattle.link_file.proofs.Places.{written_not, written_whole, header_then}
use Rattle.link_file.proofs.writing.write.Goals as goal

pub returns-then-count-records : goal.returns-then-count-records
returns-then-count-records g c =
    let o = g.K.PriceKind.operations in
    let f = g.K.StorableKind.forms in
    let t = g.L.LinkTable.meaning c.args.table.now in
    let old = c.args.out.now in
    let front : c.in-Some.header.now ≡ take header_length old = c.in-Some.ensures.cases.0 in
    let back : c.in-Some.records.now ≡ drop header_length old = c.in-Some.ensures.cases.1 in
    let long : length c.in-Some.records.now + header_length ≡ length old = c.in-Some.ensures.cases.2 in
    let short : length old < header_length + record_length * length t.links = omega arith in
    let same : c.in-Some.header.now ++ c.in-Some.records.now ≡ old = ap (λ h. h ++ c.in-Some.records.now) front ∙ ap (λ r. take header_length old ++ r) back ∙ take-append-drop header_length old in
    let written = written_not (file_bytes f t c.args.budget) old (header_length + record_length * length t.links) (length_file o f g.met.K.StorableKind.tied t c.args.budget) short in
    record { result = written.0; buffer = same ∙ written.1; stored = tt }

pub returns : goal.returns
returns g c =
    let o = g.K.PriceKind.operations in
    let f = g.K.StorableKind.forms in
    let t = g.L.LinkTable.meaning c.args.table.now in
    let b = c.args.budget in
    let n = length t.links in
    let storable = g.met.K.StorableKind.tied in
    let old = c.args.out.now in
    let size = header_length + record_length * n in
    let back : c.in-Some.records.now ≡ drop header_length old = c.in-Some.ensures.cases.1 in
    let split : length c.in-Some.records.now + header_length ≡ length old = c.in-Some.ensures.cases.2 in
    let room : size ≤ length old = omega arith in
    let long = length_file o f storable t b in
    let records = flat_map (record_bytes f) t.links in
    let count : c.link_count-count.result ≡ n = c.link_count-count.ensures in
    let header : c.header_bytes.result ≡ header_bytes f n t.points b =
    c.header_bytes.ensures
    ∙ ap (λ m. header_bytes f m c.points.result b) count
    ∙ ap (λ p. header_bytes f n p b) c.points.ensures in
    let whole : c.header_bytes.result ++ c.put_records.new.out ≡ file_bytes f t b ++ drop size old =
    ap (λ h. h ++ c.put_records.new.out) header
    ∙ header_then (header_bytes f n t.points b) records old c.in-Some.records.now c.put_records.new.out header_length (record_length * n) back c.put_records.ensures in
    let written = written_whole (file_bytes f t b) old size long room in
    let length-is : header_length + record_length * c.link_count-count.result ≡ size = ap (λ m. header_length + record_length * m) count in
    let front : file_bytes f t b ≡ take (header_length + record_length * c.link_count-count.result) (c.header_bytes.result ++ c.put_records.new.out) =
    sym (ap (λ m. take m (c.header_bytes.result ++ c.put_records.new.out)) length-is ∙ ap (take size) whole ∙ take_at (file_bytes f t b) (drop size old) size long) in
    record {
      result = ap Ok length-is ∙ written.0;
      buffer = whole ∙ written.1;
      stored = λ lawful admitted. subst (Stored o f t b) front (stored o f storable t b lawful admitted);
    }
