use Rattle.std.proofs.Common.{◌≡◌, ◌≤◌, length, filter}
use Rattle.std.specs.List.{range_with_len}
use Rattle.table.specs.Ranks.{free}
use Rattle.ranking.proofs.ordering.collecting.collect.Given as goal

abbrev pub invariant-loop-number : goal.invariant-loop-number
invariant-loop-number g l =
    record {
      free : l.numbers.items ≡ filter (free (g.L.LinkTable.meaning l.table)) (range_with_len 0 l.number);
      short : length l.numbers.items ≤ l.number;
    }
