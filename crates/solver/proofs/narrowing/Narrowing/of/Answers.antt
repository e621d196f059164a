use Rattle.std.proofs.Common.{◌≡◌, ℕ, ◌<◌, T, get_or, None, sym, refl, ap, ◌∙◌, subst}
use Rattle.spanning.specs.Joined.{NoRing}
use Rattle.spanning.specs.Roots.{root_of}
use Rattle.spanning.specs.Sets.{held}
use Rattle.spanning.proofs.Subsets.{or_left}
use Rattle.table.specs.Narrowed.{part_of}
use Rattle.table.specs.Ranks.{ends, kept, free, usable}
use Rattle.table.specs.Trees.{cost_of}
use Rattle.table.specs.Verdicts.{ring_link}
use Rattle.table.proofs.NarrowFound.{narrows}
use Rattle.forest.proofs.ReadTables as read
use Rattle.solver.specs.Narrowing.{NumberedTo}
use Rattle.solver.proofs.NarrowMade.{some_of, none_of, no_ring_lem, numbers_are, table_is}
use Rattle.solver.proofs.NarrowRoots.{bits_kept, points_are, part_is}
use Rattle.solver.proofs.narrowing.Narrowing.of.Goals as goal

pub returns-then-is_some : goal.returns-then-is_some
returns-then-is_some g c = λ lawful.
    let t = g.L.LinkTable.meaning c.args.table.now in
    let n = c.of-network.result in
    let reads = c.of-network.ensures lawful in
    let all = c.keep_all-kept.ensures in
    let found = some_of c.keep_all-kept.result.ring c.if-is_some.ensures in
    (refl, found.0, sym (read.same_ring t n reads) ∙ sym all.closed ∙ found.1)

pub returns : goal.returns
returns g c = λ lawful.
    let o = g.K.PriceKind.operations in
    let laws = g.met.K.PriceKind.lawful in
    let t = g.L.LinkTable.meaning c.args.table.now in
    let n = c.of-network.result in
    let reads = c.of-network.ensures lawful in
    let all = c.keep_all-kept.ensures in
    let grower = c.keep_all-kept.result in
    let ps = grower.parts.parents in
    let parts = c.of-parts.result.numbers.items in
    let next = c.of-parts.result.count in
    let alone : ring_link t ≡ None = sym (read.same_ring t n reads) ∙ sym all.closed ∙ none_of grower.ring c.if-is_some.ensures in
    let ring : NoRing (ends t) (kept t) = no_ring_lem o laws t lawful alone in
    let done : NumberedTo (root_of ps) t.points parts next = subst (λ m. NumberedTo (root_of ps) m parts next) (c.points.ensures ∙ reads.points) c.of-parts.ensures in
    let is : (x : ℕ) → x < t.points → get_or parts x 0 ≡ part_of t x = part_is o laws t lawful n reads grower all parts next done in
    let same : held grower.tree ≡ kept t = bits_kept o laws t lawful n reads grower all in
    let total = c.tree_total.ensures.exact lawful (subst (λ Y. (k : ℕ) → T (Y k) → T (usable t k)) (sym same) (λ k u. or_left (kept t k) (free t k) u)) (subst (NoRing (ends t)) (sym same) ring) ∙ ap (cost_of o t) same in
    let below = c.collect-numbers.ensures ∙ numbers_are o laws t lawful parts is n reads in
    record {
      from = refl;
      no_ring = alone;
      meaning = table_is o laws t lawful parts is next _ c.tree_total.result (points_are o laws t lawful n reads grower all parts next done) below total;
      numbered = below;
      law = narrows o laws t lawful ring;
    }
