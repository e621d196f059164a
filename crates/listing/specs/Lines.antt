-- The lines of the printed list, and the line of a refused file. Numbers are decimal, and each line ends in byte 10.
use Rattle.std.specs.Prelude.{ℕ, suc, List, [], ◌∷◌, ◌++◌, length, ℤ, codes, decimal, slice_index_or}
use Rattle.std.specs.Fmt.{signed_decimal}
use Rattle.table.specs.Printed.{mark_word, file_fault_text}
use Rattle.table.specs.Table.{Table}
use Rattle.table.specs.declared.links.Link.{Link}
use Rattle.table.specs.declared.refusals.FileFault.{FileFault}

-- how many bytes a line has room for; no line of the list is longer
abbrev pub room : ℕ
room = 128

-- between two fields
abbrev pub space : List ℕ
space = codes " "

-- byte 10
abbrev pub ending : List ℕ
ending = 10 ∷ []

-- line 0: the point count, the link count, the kind's code and the budget
abbrev pub head_line : ℕ → ℕ → ℕ → ℤ → List ℕ
head_line points links code budget =
    codes "points " ++ decimal points ++ codes " links " ++ decimal links ++ codes " kind " ++ decimal code ++ codes " budget " ++ signed_decimal budget ++ ending

-- a refused file: the refusal's number, and the place of the byte
abbrev pub refusal_line : FileFault → List ℕ
refusal_line fault = file_fault_text fault ++ ending

-- a kind, by the number that is printed for each amount
module _ {K : Type 0} (amount : K → ℤ) where
  -- link i: its number, its two ends, its mark and its price
  abbrev pub link_line : ℕ → Link K → List ℕ
  link_line i l =
      decimal i ++ space ++ decimal l.first ++ space ++ decimal l.second ++ space ++ mark_word l.mark ++ space ++ signed_decimal (amount l.price) ++ ending

  -- a line for each link, numbered from i
  abbrev pub link_lines : ℕ → List (Link K) → List (List ℕ)
  link_lines i [] = []
  link_lines i (l ∷ ls) = link_line i l ∷ link_lines (suc i) ls

  -- the whole list
  abbrev pub lines_of : ℕ → Table K → K → List (List ℕ)
  lines_of code t budget = head_line t.points (length t.links) code (amount budget) ∷ link_lines 0 t.links

  -- the line of this number, and nothing past the last line
  abbrev pub line_of : ℕ → Table K → K → ℕ → List ℕ
  line_of code t budget number = slice_index_or (lines_of code t budget) number []
