-- Where points hang.
use Rattle.std.specs.Prelude.{ℕ, Bool, List, None, Option, is_none, slice_index_or}
use Rattle.forest.specs.declared.merges.Hang.{Hang}
use Rattle.forest.specs.declared.merges.Node.{Node}

-- where a point hangs, if a join hung it
abbrev pub hang_in : List Node → ℕ → Option Hang
hang_in nodes x = (slice_index_or nodes x (record { hang = None; size = 0 })).hang

-- a root hangs nowhere
abbrev pub is_root : Node → Bool
is_root node = is_none node.hang
