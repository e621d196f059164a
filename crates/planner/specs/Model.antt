-- The reference model of a plan: a sheet, a count of trail lines taken, and copies of both, one for each open trial, the
-- innermost first. It is kept from nothing but what opening and the calls are handed.
use Rattle.std.specs.Prelude.{ℕ, suc, Bool, cond, ◌&&◌, List, [], ◌∷◌, length, Ok, Err, Result, ◌==◌, nat_lt}
use Rattle.price.specs.Kind.{Operations}
use Rattle.table.specs.declared.refusals.PlanFault.{PlanFault}
use Rattle.table.specs.declared.refusals.PlanFault.TheVariants as plan-fault
use Rattle.planner.specs.declared.trials.Trial.{Trial}
use Rattle.planner.specs.Sheets.{Sheet}

pub record Copied (K : Type 0) : Type 0 where
  pub sheet : Sheet K
  pub lines : ℕ

pub record Model (K : Type 0) : Type 0 where
  pub sheet : Sheet K
  pub lines : ℕ
  pub copies : List (Copied K)

-- the first day: one point, no links, zero budget, no line and no copy
abbrev pub opened : {K : Type 0} → Operations K → Model K
opened o = record { sheet = record { points = 1; links = []; budget = o.zero }; lines = 0; copies = [] }

-- begin lays a copy on top
abbrev pub begun : {K : Type 0} → Model K → Model K
begun m = record { sheet = m.sheet; lines = m.lines; copies = record { sheet = m.sheet; lines = m.lines } ∷ m.copies }

-- the most trials that can be open
abbrev pub deepest : ℕ
deepest = 16

-- refused with 51 where so many are open
abbrev pub may_begin : {K : Type 0} → Model K → Bool
may_begin m = nat_lt (length m.copies) deepest

abbrev pub after_begin : {K : Type 0} → Model K → Model K
after_begin m = cond (may_begin m) (begun m) m

-- the trial handed out: the plan's number and the depth, counted from 1
abbrev pub trial_of : {K : Type 0} → ℕ → Model K → Result Trial PlanFault
trial_of number m = cond (may_begin m) (Ok (record { plan = number; depth = suc (length m.copies) })) (Err plan-fault.TooDeep)

-- keep drops the top copy, and all lines if it was the last
abbrev pub lines_kept : {A : Type 0} → List A → ℕ → ℕ
lines_kept [] n = 0
lines_kept (c ∷ cs) n = n

abbrev pub kept_from : {K : Type 0} → Model K → List (Copied K) → Model K
kept_from m [] = m
kept_from m (c ∷ cs) = record { sheet = m.sheet; lines = lines_kept cs m.lines; copies = cs }

-- take back restores the top copy's sheet and lines and drops it
abbrev pub taken_back_from : {K : Type 0} → Model K → List (Copied K) → Model K
taken_back_from m [] = m
taken_back_from m (c ∷ cs) = record { sheet = c.sheet; lines = c.lines; copies = cs }

-- a trial is the innermost of the plan by its numbers alone; no trial is where none is open
abbrev pub is_innermost : {K : Type 0} → ℕ → Model K → Trial → Bool
is_innermost number m t = t.plan == number && (t.depth == length m.copies && nat_lt 0 (length m.copies))

abbrev pub after_keep : {K : Type 0} → ℕ → Model K → Trial → Model K
after_keep number m t = cond (is_innermost number m t) (kept_from m m.copies) m

abbrev pub after_take_back : {K : Type 0} → ℕ → Model K → Trial → Model K
after_take_back number m t = cond (is_innermost number m t) (taken_back_from m m.copies) m
