use Rattle.std.proofs.Common.{rules}
use Rattle.link_file.proofs.Decoding.{lawful_empty}
use Rattle.link_file.proofs.input.Reader.new.Goals as goal

pub returns : goal.returns
returns g c = record { records = search rules; table = search rules; budget = search rules; lawful = lawful_empty g.K.PriceKind.operations }
