use Rattle.std.proofs.Common.{sym}
use Rattle.std.proofs.lemmas.Result.{err_from_is_err_and}
use Rattle.link_file.proofs.Encoding.{passes_exactly}
use Rattle.link_file.proofs.input.Reader.check.Goals as goal

pub returns-in_err-self-clause-complete : goal.returns-in_err-self-clause-complete
returns-in_err-self-clause-complete g c =
    let p = err_from_is_err_and c.from_residual.result c.from_residual.ensures.1 in
    passes_exactly g.K.PriceKind.operations g.K.StorableKind.forms g.met.K.StorableKind.tied c.args.bytes.now c.from_residual.result (rw (p.1, p.2) (sym c.in_err-self.ensures.refused))
