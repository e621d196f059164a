use Rattle.std.proofs.Common.{◌≡◌, ◌≤◌, length}
use Rattle.table.specs.Narrowed.{numbers_of}
use Rattle.solver.specs.Narrowing.{apart_in}
use Rattle.solver.proofs.narrowing.parts.Parts.collect.Given as goal

-- the links so far are collected
abbrev pub invariant-loop-number : goal.invariant-loop-number
invariant-loop-number l = record { few : length l.numbers.items ≤ l.number; collected : l.numbers.items ≡ numbers_of l.number (apart_in l.network l.self.numbers.items) }
