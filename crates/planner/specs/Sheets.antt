-- A sheet, the changes that are noted of it, and how they are taken back.
use Rattle.std.specs.Prelude.{ℕ, ◌-◌, List, [], ◌∷◌, length, take, Some, None, Option, slice_set}
use Rattle.std.specs.List.{slice_get}
use Rattle.price.specs.Kind.{Operations}
use Rattle.table.specs.declared.links.Link.{Link}
use Rattle.table.specs.declared.marks.Mark.{Mark}
use Rattle.table.specs.Table.{Table}
use Rattle.planner.specs.declared.changes.Change.{Change}
use Rattle.planner.specs.declared.changes.Change.TheVariants as change

-- a point count, a list of links and a budget
pub record Sheet (K : Type 0) : Type 0 where
  pub points : ℕ
  pub links : List (Link K)
  pub budget : K

-- the table that a sheet stands for: it carries zero
abbrev pub table_of : {K : Type 0} → Operations K → Sheet K → Table K
table_of o s = record { points = s.points; links = s.links; carried = o.zero }

-- a link with another mark, and with another price
abbrev pub marked : {K : Type 0} → Mark → Link K → Link K
marked m l = record { first = l.first; second = l.second; mark = m; price = l.price }

abbrev pub repriced : {K : Type 0} → K → Link K → Link K
repriced p l = record { first = l.first; second = l.second; mark = l.mark; price = p }

-- a list with the element at a place changed, if there is one
abbrev pub set_if : {K : Type 0} → Option (Link K) → (Link K → Link K) → List (Link K) → ℕ → List (Link K)
set_if None f xs i = xs
set_if (Some l) f xs i = slice_set xs i (f l)

abbrev pub changed_at : {K : Type 0} → (Link K → Link K) → List (Link K) → ℕ → List (Link K)
changed_at f xs i = set_if (slice_get xs i) f xs i

-- A change is noted by what was there before it; taking it back puts that there again.
abbrev pub undone : {K : Type 0} → Change K → Sheet K → Sheet K
undone change.Added s = record { points = s.points; links = take (length s.links - 1) s.links; budget = s.budget }
undone (change.Marked i m) s = record { points = s.points; links = changed_at (marked m) s.links i; budget = s.budget }
undone (change.Repriced i p) s = record { points = s.points; links = changed_at (repriced p) s.links i; budget = s.budget }
undone (change.Budgeted b) s = record { points = s.points; links = s.links; budget = b }

-- changes, the latest last, taken back from the last to the first
abbrev pub undone_all : {K : Type 0} → List (Change K) → Sheet K → Sheet K
undone_all [] s = s
undone_all (c ∷ cs) s = undone c (undone_all cs s)
