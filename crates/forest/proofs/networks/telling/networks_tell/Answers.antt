use Rattle.table.specs.Ranks.{before}
use Rattle.forest.proofs.ReadTables as read
use Rattle.forest.proofs.networks.telling.networks_tell.Goals as goal

pub returns : goal.returns
returns g c = λ t n lawful reads.
    let o = g.K.PriceKind.operations in
    record {
      graph = read.same_graph t n reads;
      kept = read.same_kept t n reads;
      free = read.same_free_lem t n reads;
      ranked = read.ranks t n reads o g.met.K.PriceKind.lawful lawful;
      ring = read.same_ring t n reads;
      cut = read.same_cut t n reads;
      tree = read.same_tree t n reads (before o t);
    }
