-- A network's links: the graph of their ends, and their roles. A number past the links reads as a barred link from point 0 to itself.
use Rattle.std.specs.Prelude.{ℕ, Bool, ◌||◌, List, slice_index_or}
use Rattle.spanning.specs.Joined.{Graph}
use Rattle.table.specs.declared.marks.Role.TheVariants as role
use Rattle.table.specs.Ranks.{is_kept, is_free}
use Rattle.forest.specs.declared.networks.ends.Ends.{Ends}

-- the link that stands past the links
abbrev pub nowhere : Ends
nowhere = record { first = 0; second = 0; role = role.Barred }

abbrev pub link_at : List Ends → ℕ → Ends
link_at links k = slice_index_or links k nowhere

-- the ends of each link
abbrev pub graph_of : List Ends → Graph
graph_of links = record { first = λ k. (link_at links k).first; second = λ k. (link_at links k).second }

-- the kept links, the free ones, and those that are not barred
abbrev pub kept_in : List Ends → ℕ → Bool
kept_in links k = is_kept (link_at links k).role

abbrev pub free_in : List Ends → ℕ → Bool
free_in links k = is_free (link_at links k).role

abbrev pub usable_in : List Ends → ℕ → Bool
usable_in links k = kept_in links k || free_in links k
