-- What a caller reads at the front of a buffer into which a line was written.
use Rattle.std.proofs.Common.{◌≡◌, ℕ, ◌++◌, ◌≤◌, Bool, true, false, cond, leb, List, length, take, drop, Ok, Err, refl, ap, ◌∙◌, arith}
use Rattle.std.proofs.lemmas.List.{take_at}
use Rattle.table.specs.Buffers.{written_length, written_to}
use Rattle.table.specs.declared.refusals.PlanFault.TheVariants.{ShortBuffer}

by_room : (line out after : List ℕ) (n : ℕ) (b : Bool) → Ok n ≡ cond b (Ok (length line)) (Err ShortBuffer) → after ≡ cond b (line ++ drop (length line) out) out → take n after ≡ line
by_room line out after n true e h =
    let same : n ≡ length line = cc in
    ap (λ m. take m after) same ∙ ap (take (length line)) h ∙ take_at line (drop (length line) out) (length line) refl
by_room line out after n false e h = let z : ◌≡◌ {A = ℕ} 0 1 = cc in absurd (omega arith)

-- where a length was answered, so many bytes of the buffer are the line
pub front : (line out after : List ℕ) (n : ℕ) → Ok n ≡ written_length line out → after ≡ written_to line out → take n after ≡ line
front line out after n e h = by_room line out after n (leb (length line) (length out)) e h
