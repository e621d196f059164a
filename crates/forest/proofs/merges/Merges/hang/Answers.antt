use Rattle.std.proofs.Common.{◌≡◌, ◌+◌, ◌<◌, length, Some, ap, ◌∙◌, arith}
use Rattle.std.proofs.lemmas.List.{length-set}
use Rattle.forest.specs.Merges.{join_count}
use Rattle.forest.proofs.MergeHanging.{parents_still, joins_still, all_rise, counted_still}
use Rattle.forest.proofs.merges.Merges.hang.Goals as goal

pub invariant_of-self : goal.invariant_of-self
invariant_of-self c =
    let m = c.args.self.now in
    let low = c.args.low in
    let high = c.args.high in
    let q = c.requires in
    let n = join_count m in
    let low_in : low < length m.nodes = omega (arith, m.each_point) in
    let high_in : high < length m.nodes = omega (arith, m.each_point) in
    let hung = ap (λ j. Some (record { parent = high; join = j })) c.len.ensures.value in
    let one_more : length c.push.new.self.items ≡ n + 1 = c.push.ensures.len in
    record {
      each_point = length-set _ _ _ ∙ length-set _ _ _ ∙ m.each_point;
      parent_is_point = parents_still m.nodes low high n _ _ low_in high_in q.apart q.low_root q.high_root hung q.high_root q.high_point m.parent_is_point;
      hung_by_join = joins_still m.nodes low high n _ _ low_in high_in q.apart q.low_root q.high_root hung q.high_root _ one_more m.hung_by_join;
      rises = all_rise m.nodes low high n _ _ low_in high_in q.apart q.low_root q.high_root hung q.high_root m.hung_by_join m.rises;
      joins_and_roots = counted_still m.nodes low high n _ _ low_in high_in q.apart q.low_root q.high_root hung q.high_root _ one_more m.joins_and_roots;
    }
