-- Every refusal: its number and, where a file gave cause, the place of the byte.
use Rattle.std.specs.Prelude.{ℕ, Some, None, Option}
use Rattle.table.specs.declared.refusals.RecordFault.{RecordFault}
use Rattle.table.specs.declared.refusals.RecordFault.TheVariants as record-fault
use Rattle.table.specs.declared.refusals.FileFault.{FileFault}
use Rattle.table.specs.declared.refusals.FileFault.TheVariants as file-fault
use Rattle.table.specs.declared.refusals.PlanFault.{PlanFault}
use Rattle.table.specs.declared.refusals.PlanFault.TheVariants as plan-fault

-- number and place
abbrev pub record_refusal : RecordFault → ℕ × ℕ
record_refusal (record-fault.Length at) = (17, at)
record_refusal (record-fault.Ends at) = (18, at)
record_refusal (record-fault.Mark at) = (19, at)
record_refusal (record-fault.Price at) = (20, at)

abbrev pub file_refusal : FileFault → ℕ × ℕ
file_refusal file-fault.Size = (11, 0)
file_refusal file-fault.Version = (12, 0)
file_refusal file-fault.LengthField = (13, 1)
file_refusal file-fault.Kind = (14, 5)
file_refusal file-fault.PointCount = (15, 6)
file_refusal file-fault.Budget = (16, 8)
file_refusal file-fault.Records = (17, 1)
file_refusal (file-fault.Record f) = record_refusal f

-- number, and place where a file gave cause
abbrev pub plan_refusal : PlanFault → ℕ × Option ℕ
plan_refusal (plan-fault.File f) = ((file_refusal f).0, Some (file_refusal f).1)
plan_refusal plan-fault.PointCount = (32, None)
plan_refusal plan-fault.ShortBuffer = (33, None)
plan_refusal plan-fault.InUse = (34, None)
plan_refusal plan-fault.PoolFull = (41, None)
plan_refusal plan-fault.Ends = (42, None)
plan_refusal plan-fault.NoSuchLink = (43, None)
plan_refusal plan-fault.Price = (44, None)
plan_refusal plan-fault.TrailFull = (45, None)
plan_refusal plan-fault.Budget = (46, None)
plan_refusal plan-fault.TooDeep = (51, None)
plan_refusal plan-fault.NotInnermost = (52, None)
plan_refusal plan-fault.Ring = (61, None)
plan_refusal plan-fault.Cut = (62, None)
plan_refusal plan-fault.Over = (63, None)
