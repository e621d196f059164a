use Rattle.std.proofs.Common.{ℕ, ◌<◌, get_or, None}
use Rattle.forest.specs.Paths.{ToldRightly}
use Rattle.forest.proofs.paths.telling.last_links.Given as goal

-- the links so far are told of
abbrev pub invariant-loop-link : goal.invariant-loop-link
invariant-loop-link l = (k : ℕ) → k < l.link → ToldRightly l.tree l.paths k (get_or l.last-items k None)
