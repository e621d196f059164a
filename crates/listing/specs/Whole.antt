-- The whole printed list of a link file.
use Rattle.std.specs.Prelude.{ℕ, List, ℤ, Ok, Err, Result}
use Rattle.std.specs.List.{flat_map}
use Rattle.price.specs.Kind.{Operations}
use Rattle.price.specs.Forms.{Forms}
use Rattle.table.specs.Table.{Table}
use Rattle.table.specs.declared.refusals.FileFault.{FileFault}
use Rattle.link_file.specs.Check.{checked}
use Rattle.link_file.specs.Format.{file_table, file_budget}
use Rattle.listing.specs.Lines.{lines_of, refusal_line}

module _ {K : Type 0} (amount : K → ℤ) where
  -- all lines of a table, one after the other
  abbrev pub table_text : ℕ → Table K → K → List ℕ
  table_text code t budget = flat_map (λ line. line) (lines_of amount code t budget)

  module _ (o : Operations K) (f : Forms K) where
    -- the list of a file that passes the check, and else the line of its refusal
    abbrev pub text_after : List ℕ → Result (Unit {0}) FileFault → List ℕ
    text_after bs (Ok _) = table_text f.code (file_table f o.zero bs) (file_budget f o.zero bs)
    text_after bs (Err fault) = refusal_line fault

    abbrev pub file_text : List ℕ → List ℕ
    file_text bs = text_after bs (checked f bs)
