-- An array whose first places are written.
use Rattle.std.proofs.Common.{◌≡◌, ℕ, ◌+◌, ◌-◌, ◌≤◌, List, ◌++◌, length, get_or, replicate, None, Option, ◌∙◌, arith}
use Rattle.std.proofs.Math.ListN.{drop}
use native.Mathlib.Decide.{dec_lt}
use Rattle.std.proofs.lemmas.List.{get_or-append_right, get_or-drop, get_or-replicate, get_or_past, length-replicate}

-- past them there is none
pub none_after : (items : List (Option ℕ)) (n m k : ℕ) → length items ≡ n → n ≤ k → get_or (items ++ drop n (replicate m None)) k None ≡ None
none_after items n m k long past = get_or-append_right items (drop n (replicate m None)) n k None long past ∙ get_or-drop n (replicate m None) (k - n) None ∙ (elim (dec_lt (n + (k - n)) m) [
  | yes l ↦ get_or-replicate m (n + (k - n)) None None l
  | no after ↦ get_or_past (replicate m None) (n + (k - n)) None (let long = length-replicate {A = Option ℕ} m None in omega arith)
])
