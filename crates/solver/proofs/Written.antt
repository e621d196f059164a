-- A buffer of which the first places are written.
use Rattle.std.proofs.Common.{◌≡◌, ℕ, ◌<◌, ◌≤◌, List, ◌++◌, length, get_or, take, drop, ap, ◌∙◌, arith}
use Rattle.std.proofs.lemmas.List.{length-take-le}
use Rattle.std.proofs.lemmas.List.FromFn.{fill_by_all}
use Rattle.solver.specs.Settling.{listed}

pub written_front : (f : ℕ → ℕ) (front old : List ℕ) (m n : ℕ) → m ≡ n → m ≤ length old → length front ≡ length (take m old) → ((k : ℕ) → k < length (take m old) → get_or front k 0 ≡ f k) → front ++ drop m old ≡ listed f n ++ drop n old
written_front f front old m n same room long each =
    let taken = length-take-le m old room in
    ap (λ xs. xs ++ drop m old) (fill_by_all f front m 0 (omega arith) (λ k l. each k (omega arith))) ∙ ap (λ k. listed f k ++ drop k old) same
