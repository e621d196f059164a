use Rattle.std.proofs.Common.{◌≡◌, ℕ, false, length, get_or, Contains}
use Rattle.ranking.specs.Totals.{swap_of, fits_in}
use Rattle.ranking.proofs.totals.walking.Walk.answer_group.Given as goal

-- the links so far are answered, and no others
abbrev pub invariant-loop-number : goal.invariant-loop-number
invariant-loop-number g l = record {
  long : length l.fits ≡ 2048;
  done : (e : ℕ) → Contains l.yielded e → get_or l.fits e false ≡ fits_in g.K.PriceKind.operations (g.L.LinkTable.meaning l.self.table.now) l.stays l.self.budget (swap_of l.self.swaps.now e);
  rest : (e : ℕ) → (Contains l.yielded e → ⊥) → get_or l.fits e false ≡ get_or l.initial.fits e false;
}
