use Rattle.std.proofs.Common.{sym, ◌∙◌}
use Rattle.std.proofs.lemmas.Result.{err_from_is_err_and}
use Rattle.link_file.proofs.Decoding.{filled}
use Rattle.link_file.proofs.Faults.{checked_rest}
use Rattle.link_file.proofs.input.Reader.read.Goals as goal

pub returns-in_err-check_records-clause-refused : goal.returns-in_err-check_records-clause-refused
returns-in_err-check_records-clause-refused g c =
    let r = c.in_ok-reader in
    let p = err_from_is_err_and c.from_residual-in_err-check_records.result c.from_residual-in_err-check_records.ensures.1 in
    let rest = checked_rest g.K.StorableKind.forms c.args.bytes.now r.reader.points r.reader.records.now r.ensures.points r.ensures.records r.ensures.passed in
    rw (p.1, p.2) (rest ∙ sym c.in_err-check_records.ensures)

pub returns-clause-passed : goal.returns-clause-passed
returns-clause-passed g c =
    let r = c.in_ok-reader in
    checked_rest g.K.StorableKind.forms c.args.bytes.now r.reader.points r.reader.records.now r.ensures.points r.ensures.records r.ensures.passed
    ∙ sym c.in_ok-check_records.ensures

pub returns-clause-filled : goal.returns-clause-filled
returns-clause-filled g c =
    let r = c.in_ok-reader in
    filled g.K.PriceKind.operations g.K.StorableKind.forms g.met.K.StorableKind.tied r.reader c.args.bytes.now (λ k. (c.type_inv.bytes k).fits) r.ensures.records r.ensures.points r.ensures.budget r.ensures.passed c.in_ok-check_records.ensures
