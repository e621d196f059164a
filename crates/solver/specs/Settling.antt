-- What settling a table answers, and what it writes.
use Rattle.std.specs.Prelude.{ℕ, Bool, true, false, cond, List, ◌++◌, map, drop, Some, None, Ok, Err, Option, Result, nat_le}
use Rattle.std.specs.List.{range_with_len}
use Rattle.price.specs.Kind.{Operations}
use Rattle.table.specs.declared.refusals.PlanFault.{PlanFault}
use Rattle.table.specs.declared.refusals.PlanFault.TheVariants as plan-fault
use Rattle.table.specs.declared.verdicts.Verdict.{Verdict}
use Rattle.table.specs.declared.verdicts.Verdict.TheVariants as verdict
use Rattle.table.specs.Ranks.{link_count}
use Rattle.table.specs.Table.{Table}
use Rattle.table.specs.Trees.{shown}
use Rattle.table.specs.Verdicts.{verdict_of}

-- 33 where there are fewer places than links, then 46 where the budget is not admitted
abbrev pub admit_refusal : {K : Type 0} → Operations K → ℕ → ℕ → K → Option PlanFault
admit_refusal o links places budget = cond (nat_le links places) (cond (o.budget budget) None (Some plan-fault.Budget)) (Some plan-fault.ShortBuffer)

abbrev pub settle_refusal : {K : Type 0} → Operations K → Table K → K → ℕ → Option PlanFault
settle_refusal o t budget places = admit_refusal o (link_count t) places budget

-- the refusal, or else the answer
abbrev pub unless : {A : Type 0} → Option PlanFault → A → Result A PlanFault
unless None answer = Ok answer
unless (Some fault) answer = Err fault

-- whether there is a tree to show
abbrev pub has_tree : {K : Type 0} → Verdict K → Bool
has_tree (verdict.Ring l) = false
has_tree (verdict.Cut p) = false
has_tree (verdict.Over c) = true
has_tree (verdict.Fits c) = true

-- a number for each link below n
abbrev pub listed : (ℕ → ℕ) → ℕ → List ℕ
listed f n = map f (range_with_len 0 n)

-- one byte a link: 1 for a link of the set, and else 0
abbrev pub tree_bytes : (ℕ → Bool) → ℕ → List ℕ
tree_bytes X n = listed (λ k. cond (X k) 1 0) n

-- what the places hold afterwards: the tree for over and fits, and past the links what they held
abbrev pub tree_written : {K : Type 0} → Operations K → Table K → K → List ℕ → List ℕ
tree_written o t budget out = cond (has_tree (verdict_of o t budget)) (tree_bytes (shown o t) (link_count t) ++ drop (link_count t) out) out

abbrev pub unless_kept : Option PlanFault → List ℕ → List ℕ → List ℕ
unless_kept None after before = after
unless_kept (Some fault) after before = before
