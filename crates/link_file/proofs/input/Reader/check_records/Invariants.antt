use Rattle.std.proofs.Common.{◌≡◌, ◌+◌, ◌*◌, drop}
use Rattle.link_file.specs.Check.{first_fault, cases_of_records}
use Rattle.link_file.specs.Format.{header_length, record_length}
use Rattle.link_file.proofs.input.Reader.check_records.Given as goal

-- what is left of the records has the fault of all
abbrev pub invariant-loop-number : goal.invariant-loop-number
invariant-loop-number g l =
    first_fault (cases_of_records g.K.StorableKind.forms l.self.points header_length l.self.records.now)
    ≡ first_fault (cases_of_records g.K.StorableKind.forms l.self.points (header_length + record_length * l.number) (drop l.number l.self.records.now))
