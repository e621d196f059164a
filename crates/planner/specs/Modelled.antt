-- The model of a plan: its copies are what taking back the trail's lines gives.
use Rattle.std.specs.Prelude.{ℕ, List, length, map, drop, reverse}
use Rattle.planner.specs.declared.changes.Change.{Change}
use Rattle.planner.specs.declared.plans.Plan.{Plan}
use Rattle.planner.specs.Model.{Copied, Model}
use Rattle.planner.specs.Sheets.{Sheet, undone_all}

abbrev pub sheet_of : {K : Type 0} → Plan K → Sheet K
sheet_of p = record { points = p.points; links = p.pool.taken; budget = p.budget.now }

-- the copy at so many lines
abbrev pub copy_at : {K : Type 0} → Sheet K → List (Change K) → ℕ → Copied K
copy_at sheet lines n = record { sheet = undone_all (drop n lines) sheet; lines = n }

-- the copies of the open trials, the innermost first; starts has the lines at each begin, the outermost first
abbrev pub copies_of : {K : Type 0} → Sheet K → List (Change K) → List ℕ → List (Copied K)
copies_of sheet lines starts = map (copy_at sheet lines) (reverse starts)

abbrev pub model_of : {K : Type 0} → Plan K → Model K
model_of p = record { sheet = sheet_of p; lines = length p.trail.taken; copies = copies_of (sheet_of p) p.trail.taken p.starts.items }
