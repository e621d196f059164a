-- What is printed of a mark, of a number that no mark has, and of a refusal. Numbers are decimal.
use Rattle.std.specs.Prelude.{ℕ, List, [], ◌++◌, Some, None, Option, codes, decimal}
use Rattle.table.specs.Refusals.{record_refusal, file_refusal, plan_refusal}
use Rattle.table.specs.declared.marks.Mark.{Mark}
use Rattle.table.specs.declared.marks.Mark.TheVariants.{Free, Kept, Barred}
use Rattle.table.specs.declared.marks.UnknownMark.{UnknownMark}
use Rattle.table.specs.declared.refusals.FileFault.{FileFault}
use Rattle.table.specs.declared.refusals.PlanFault.{PlanFault}
use Rattle.table.specs.declared.refusals.RecordFault.{RecordFault}

abbrev pub mark_word : Mark → List ℕ
mark_word Free = codes "free"
mark_word Kept = codes "kept"
mark_word Barred = codes "barred"

abbrev pub unknown_mark_text : UnknownMark → List ℕ
unknown_mark_text unknown = codes "no mark has the number " ++ decimal unknown.0

-- the place of the byte, where a file gave cause
abbrev pub at_place : Option ℕ → List ℕ
at_place None = []
at_place (Some place) = codes " at " ++ decimal place

-- the refusal's number, and the place
abbrev pub refusal_text : ℕ → Option ℕ → List ℕ
refusal_text number place = codes "refused " ++ decimal number ++ at_place place

abbrev pub record_fault_text : RecordFault → List ℕ
record_fault_text fault = refusal_text (record_refusal fault).0 (Some (record_refusal fault).1)

abbrev pub file_fault_text : FileFault → List ℕ
file_fault_text fault = refusal_text (file_refusal fault).0 (Some (file_refusal fault).1)

abbrev pub plan_fault_text : PlanFault → List ℕ
plan_fault_text fault = refusal_text (plan_refusal fault).0 (plan_refusal fault).1
