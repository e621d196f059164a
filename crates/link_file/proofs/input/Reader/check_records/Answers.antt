use Rattle.std.proofs.Common.{[], sym, ap, ◌∙◌, arith}
use Rattle.std.proofs.lemmas.Result.{err_from_is_err_and}
use Rattle.table.specs.declared.refusals.FileFault.TheVariants.{Record}
use Rattle.link_file.specs.Check.{answer}
use Rattle.link_file.proofs.Faults.{first_fault_here, first_fault_next}
use Rattle.link_file.proofs.input.Reader.check_records.Goals as goal

pub returns-in_err-check_record : goal.returns-in_err-check_record
returns-in_err-check_record g c =
    let p = err_from_is_err_and c.from_residual.result c.from_residual.ensures.1 in
    let here = first_fault_here g.K.StorableKind.forms c.args.self.now.points c.args.self.now.records.now c.loop-number.number [] (Record c.in_err-check_record.field-0.0) (omega arith) c.in_err-check_record.ensures in
    rw (p.1, p.2) (sym (ap answer (c.loop-number.invariant ∙ here)))

pub loop-number-preserved : goal.loop-number-preserved
loop-number-preserved g c =
    c.loop-number.invariant
    ∙ first_fault_next g.K.StorableKind.forms c.args.self.now.points c.args.self.now.records.now c.loop-number.number [] (omega arith) c.in_ok-check_record.ensures
