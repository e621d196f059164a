-- What a network has in common with the table that it was read from.
use Rattle.std.specs.Prelude.{◌≡◌, ℕ, length, map}
use Rattle.spanning.specs.Joined.{Graph}
use Rattle.table.specs.declared.links.Link.{Link}
use Rattle.table.specs.Marks.{role_of}
use Rattle.table.specs.Table.{Table}
use Rattle.forest.specs.declared.networks.Network.{Network}
use Rattle.forest.specs.declared.networks.ends.Ends.{Ends}
use Rattle.forest.specs.Networks.{graph_of}

-- how many links a network has
abbrev pub count_of : Network → ℕ
count_of n = length n.links.items

-- the ends of a network's links
abbrev pub links_of : Network → Graph
links_of n = graph_of n.links.items

-- the ends and the role of a table's link
abbrev pub ends_in : {K : Type 0} → Link K → Ends
ends_in l = record { first = l.first; second = l.second; role = role_of l.mark }

-- the points of a table, and the ends and roles of its links
pub record Reads {K : Type 0} (t : Table K) (n : Network) : Type 0 where
  pub points : n.points ≡ t.points
  pub links : n.links.items ≡ map ends_in t.links
