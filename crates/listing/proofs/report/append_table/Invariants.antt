use Rattle.std.proofs.Common.{◌≡◌, ◌++◌, string_bytes}
use Rattle.listing.proofs.Listed.{text_before}
use Rattle.listing.proofs.report.append_table.Given as goal

-- the lines so far
abbrev pub invariant-loop-number : goal.invariant-loop-number
invariant-loop-number g l =
    string_bytes l.text ≡ string_bytes l.initial.text ++ text_before g.K.ListedKind.printed g.K.StorableKind.forms.code (g.L.LinkTable.meaning l.table) l.budget l.number
