-- Bytes that a call writes to the front of a caller's buffer: the answer, and what the buffer holds then.
use Rattle.std.specs.Prelude.{ℕ, cond, List, ◌++◌, length, drop, Ok, Err, Result, nat_le}
use Rattle.table.specs.declared.refusals.PlanFault.{PlanFault}
use Rattle.table.specs.declared.refusals.PlanFault.TheVariants.{ShortBuffer}

-- the length, or a refusal where the buffer is too short
abbrev pub written_length : List ℕ → List ℕ → Result ℕ PlanFault
written_length bytes out = cond (nat_le (length bytes) (length out)) (Ok (length bytes)) (Err ShortBuffer)

-- the bytes, and what stood past them; or all as it was
abbrev pub written_to : List ℕ → List ℕ → List ℕ
written_to bytes out = cond (nat_le (length bytes) (length out)) (bytes ++ drop (length bytes) out) out
