-- The link file: which bytes stand for a table and a budget, and what bytes stand for. Numbers are big-endian.
use Rattle.std.specs.Prelude.{ℕ, zero, suc, ◌+◌, ◌-◌, ◌*◌, ◌/◌, ◌%◌, List, [], ◌∷◌, ◌++◌, length, drop, slice_index}
use Rattle.std.specs.Option.{unwrap_or}
use Rattle.std.specs.List.{flat_map}
use Rattle.std.specs.Simd.{first_chunks}
use Rattle.price.specs.Forms.{Forms, bytes32}
use Rattle.table.specs.Marks.{mark_number, mark_of}
use Rattle.table.specs.Table.{Table}
use Rattle.table.specs.declared.links.Link.{Link}
use Rattle.table.specs.declared.marks.Mark.TheVariants.{Free}

-- the bytes before the first record, and of each record
abbrev pub header_length : ℕ
header_length = 12

abbrev pub record_length : ℕ
record_length = 10

abbrev pub number16 : List ℕ → ℕ → ℕ
number16 bs at = slice_index bs at * 256 + slice_index bs (at + 1)

abbrev pub bytes16 : ℕ → List ℕ
bytes16 n = (n / 256 % 256) ∷ (n % 256) ∷ []

-- the four bytes from a place on
abbrev pub four : List ℕ → ℕ → List ℕ
four bs at = slice_index bs at ∷ slice_index bs (at + 1) ∷ slice_index bs (at + 2) ∷ slice_index bs (at + 3) ∷ []

-- how many whole records a file holds
abbrev pub record_count : List ℕ → ℕ
record_count bs = (length bs - header_length) / record_length

-- the whole records of a file
abbrev pub records_of : List ℕ → List (List ℕ)
records_of bs = first_chunks record_length (record_count bs) (drop header_length bs)

-- From a table and a budget to bytes.
module _ {K : Type 0} (f : Forms K) where
  -- a length byte of 9, two ends, the mark, the price
  abbrev pub record_bytes : Link K → List ℕ
  record_bytes l = 9 ∷ bytes16 l.first ++ bytes16 l.second ++ (mark_number l.mark ∷ f.price_form l.price)

  -- version 1, how many bytes follow the length field, the kind's code, the point count, the budget
  abbrev pub header_bytes : ℕ → ℕ → K → List ℕ
  header_bytes links points budget = 1 ∷ bytes32 (7 + record_length * links) ++ (f.code ∷ bytes16 points) ++ f.budget_form budget

  abbrev pub file_bytes : Table K → K → List ℕ
  file_bytes t budget = header_bytes (length t.links) t.points budget ++ flat_map record_bytes t.links

-- From bytes to a table, with the kind's zero. A part that stands for nothing reads as zero, or as a free mark; bytes that pass the check have none. A file carries zero.
module _ {K : Type 0} (f : Forms K) (nothing : K) where
  -- the link of the record at the front
  abbrev pub link_at : List ℕ → Link K
  link_at bs = record {
    first = number16 bs 1;
    second = number16 bs 3;
    mark = unwrap_or (mark_of (slice_index bs 5)) Free;
    price = unwrap_or (f.price_of (four bs 6)) nothing;
  }

  -- the links of n records
  abbrev pub links_of : ℕ → List ℕ → List (Link K)
  links_of zero bs = []
  links_of (suc n) bs = link_at bs ∷ links_of n (drop record_length bs)

  -- what a file's bytes stand for
  abbrev pub file_table : List ℕ → Table K
  file_table bs = record {
    points = number16 bs 6;
    links = links_of (record_count bs) (drop header_length bs);
    carried = nothing;
  }

  abbrev pub file_budget : List ℕ → K
  file_budget bs = unwrap_or (f.budget_of (four bs 8)) nothing
