-- The check of a link file: for each refusal when it applies, in order; the first that applies is given.
use Rattle.std.specs.Prelude.{ℕ, zero, suc, ◌+◌, ◌-◌, ◌*◌, ◌%◌, Bool, cond, not, ◌&&◌, ◌||◌, List, [], ◌∷◌, ◌++◌, length, drop, is_some, Some, None, Ok, Err, Option, Result, ◌==◌, nat_lt, slice_index}
use Rattle.price.specs.Forms.{Forms, number32}
use Rattle.table.specs.Table.{most_points, most_links}
use Rattle.table.specs.declared.refusals.FileFault.{FileFault}
use Rattle.table.specs.declared.refusals.FileFault.TheVariants as file
use Rattle.table.specs.declared.refusals.RecordFault.TheVariants as record-fault
use Rattle.link_file.specs.Format.{header_length, record_length, number16, four, record_count}

abbrev pub shortest_file : ℕ
shortest_file = header_length

abbrev pub longest_file : ℕ
longest_file = header_length + record_length * most_links

-- a fault, and whether it applies
abbrev pub Case : Type 0
Case = Bool × FileFault

-- the first that applies, if any
abbrev pub first_fault : List Case → Option FileFault
first_fault [] = None
first_fault (c ∷ cs) = cond c.0 (Some c.1) (first_fault cs)

-- two ends of a file with so many points
abbrev pub ends_wrong : ℕ → ℕ → ℕ → Bool
ends_wrong points a b = not (nat_lt a points && nat_lt b points) || a == b

-- what the check answers
abbrev pub answer : Option FileFault → Result (Unit {0}) FileFault
answer None = Ok tt
answer (Some e) = Err e

module _ {K : Type 0} (f : Forms K) where
  -- the file as a whole: its size, version, length field and kind
  abbrev pub frame_cases : List ℕ → List Case
  frame_cases bs =
      (nat_lt (length bs) shortest_file || nat_lt longest_file (length bs), file.Size)
      ∷ (not (slice_index bs 0 == 1), file.Version)
      ∷ (not (number32 (four bs 1) == length bs - 5), file.LengthField)
      ∷ (not (slice_index bs 5 == f.code), file.Kind)
      ∷ []

  -- its point count and budget, and that the links are whole records
  abbrev pub content_cases : List ℕ → List Case
  content_cases bs =
      (number16 bs 6 == 0 || nat_lt most_points (number16 bs 6), file.PointCount)
      ∷ (not (is_some (f.budget_of (four bs 8))), file.Budget)
      ∷ (not ((number32 (four bs 1) - 7) % record_length == 0), file.Records)
      ∷ []

  -- the two together: what is judged of a header
  abbrev pub header_cases : List ℕ → List Case
  header_cases bs = frame_cases bs ++ content_cases bs

  -- the record at the front of bs, which stands at a place of the file
  abbrev pub record_cases : ℕ → ℕ → List ℕ → List Case
  record_cases points at bs =
      (not (slice_index bs 0 == 9), file.Record (record-fault.Length at))
      ∷ (ends_wrong points (number16 bs 1) (number16 bs 3), file.Record (record-fault.Ends (at + 1)))
      ∷ (nat_lt 2 (slice_index bs 5), file.Record (record-fault.Mark (at + 5)))
      ∷ (not (is_some (f.price_of (four bs 6))), file.Record (record-fault.Price (at + 6)))
      ∷ []

  -- n records, from a place on
  abbrev pub records_cases : ℕ → ℕ → ℕ → List ℕ → List Case
  records_cases points zero at bs = []
  records_cases points (suc n) at bs = record_cases points at bs ++ records_cases points n (at + record_length) (drop record_length bs)

  -- the same of records that are cut already
  abbrev pub cases_of_records : ℕ → ℕ → List (List ℕ) → List Case
  cases_of_records points at [] = []
  cases_of_records points at (r ∷ rs) = record_cases points at r ++ cases_of_records points (at + record_length) rs

  abbrev pub file_cases : List ℕ → List Case
  file_cases bs = frame_cases bs ++ (content_cases bs ++ records_cases (number16 bs 6) (record_count bs) header_length (drop header_length bs))

  abbrev pub checked : List ℕ → Result (Unit {0}) FileFault
  checked bs = answer (first_fault (file_cases bs))
