-- Marks: the number of each, the mark of a number, and the one reading of a mark that trees and findings rest on.
use Rattle.std.specs.Prelude.{◌≡◌, ◌≢◌, ℕ, cond, Some, None, Option, Result, MatchResult, ◌==◌}
use Rattle.table.specs.declared.marks.Mark.{Mark}
use Rattle.table.specs.declared.marks.Mark.TheVariants as mark
use Rattle.table.specs.declared.marks.UnknownMark.{UnknownMark}
use Rattle.table.specs.declared.marks.Role.{Role}
use Rattle.table.specs.declared.marks.Role.TheVariants as role

abbrev pub mark_number : Mark → ℕ
mark_number mark.Free = 0
mark_number mark.Kept = 1
mark_number mark.Barred = 2

abbrev pub mark_of : ℕ → Option Mark
mark_of n = cond (n == 0) (Some mark.Free) (cond (n == 1) (Some mark.Kept) (cond (n == 2) (Some mark.Barred) None))

-- a number is read as the mark that has it and no other, or refused with the number where no mark has it
abbrev pub ReadAsMark : ℕ → Result Mark UnknownMark → Type 0
ReadAsMark n r = MatchResult r (λ m. (mark_of n ≡ Some m) × (mark_number m ≡ n)) (λ e. (mark_of n ≡ None) × ((m : Mark) → mark_number m ≢ n) × (e.0 ≡ n))

abbrev pub role_of : Mark → Role
role_of mark.Free = role.Free
role_of mark.Kept = role.Kept
role_of mark.Barred = role.Barred
