use Rattle.std.proofs.Common.{◌≡◌, length, rules}
use Rattle.link_file.proofs.Cells.{four_whole}
use Rattle.link_file.proofs.writing.header_bytes.Goals as goal

pub returns : goal.returns
returns g c =
    let form = c.budget_form.result in
    let long : length form ≡ 4 = search rules in
    rw (c.to_be_bytes.ensures, c.to_be_bytes-2.ensures, c.code.ensures, ← c.budget_form.ensures.value) (cc (four_whole form long))
