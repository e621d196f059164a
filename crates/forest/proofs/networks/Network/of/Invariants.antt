use Rattle.std.proofs.Common.{◌≡◌, ◌≤◌, take, map}
use Rattle.table.specs.Table.{Lawful}
use Rattle.forest.specs.Readings.{count_of, ends_in}
use Rattle.forest.proofs.networks.Network.of.Given as goal

abbrev pub invariant-loop-number : goal.invariant-loop-number
invariant-loop-number g l = record {
  few : count_of l.network ≤ l.number;
  points : Lawful g.K.PriceKind.operations (g.L.LinkTable.meaning l.table) → l.network.points ≡ (g.L.LinkTable.meaning l.table).points;
  links : Lawful g.K.PriceKind.operations (g.L.LinkTable.meaning l.table) → l.network.links.items ≡ map ends_in (take l.number (g.L.LinkTable.meaning l.table).links);
}
