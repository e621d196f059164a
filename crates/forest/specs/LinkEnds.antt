-- The two ends of a link.
use Rattle.std.specs.Prelude.{ℕ, Bool, ◌&&◌, ◌==◌}
use Rattle.spanning.specs.Joined.{Graph}
use Rattle.forest.specs.declared.rooted.links_by_end.ends.End.{End}
use Rattle.forest.specs.declared.rooted.links_by_end.ends.End.TheVariants.{First, Second}

-- the point at one end of a link, and the other end
abbrev pub end_of : Graph → End → ℕ → ℕ
end_of g First e = g.first e
end_of g Second e = g.second e

abbrev pub other : End → End
other First = Second
other Second = First

-- whether X has a link, and the link has the point x at this end
abbrev pub with_end : Graph → (ℕ → Bool) → End → ℕ → ℕ → Bool
with_end g X end x e = X e && (end_of g end e == x)
