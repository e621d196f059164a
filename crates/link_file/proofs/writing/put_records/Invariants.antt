use Rattle.std.proofs.Common.{◌≡◌, ◌*◌, ◌++◌, take, drop}
use Rattle.std.specs.List.{flat_map}
use Rattle.link_file.specs.Format.{record_length, record_bytes}
use Rattle.link_file.proofs.writing.put_records.Given as goal

-- the records so far, and what stood after them
abbrev pub invariant-loop-number : goal.invariant-loop-number
invariant-loop-number g l =
    l.out ≡ flat_map (record_bytes g.K.StorableKind.forms) (take l.number (g.L.LinkTable.meaning l.table).links) ++ drop (record_length * l.number) l.initial.out
