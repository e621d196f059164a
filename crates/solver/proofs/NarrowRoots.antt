-- The roots of kept links joined are the lowest points of the parts.
use Rattle.std.proofs.Common.{◌≡◌, ℕ, ◌<◌, ◌≤◌, T, eqb, ltb, List, length, get_or, sym, ap, ◌∙◌, subst, arith, eqb→eq, lt→ltb}
use mathlib.Core.Path.{fun_ext}
use lib.Dec.{eqb_refl}
use Rattle.price.specs.Kind.{Operations, Laws}
use Rattle.spanning.specs.Roots.{Forest, root_of, Represents}
use Rattle.spanning.specs.Sets.{count, held}
use Rattle.spanning.proofs.Climbs.{root_lower, leads, root_is_root, own_root}
use Rattle.spanning.proofs.LabelsDecide.{joined_is, is_joined}
use Rattle.spanning.proofs.Few.{label_low, label_idle}
use Rattle.spanning.proofs.Search.{count_same}
use Rattle.spanning.proofs.Subsets.{and_both, and_left, same_test}
use Rattle.table.specs.Narrowed.{lowest_of, is_lowest, part_of}
use Rattle.table.specs.Ranks.{ends, link_count, kept}
use Rattle.table.specs.Table.{Table, Lawful}
use Rattle.table.proofs.Graphs as graphs
use Rattle.forest.specs.declared.growing.Grower.{Grower}
use Rattle.forest.specs.declared.networks.Network.{Network}
use Rattle.forest.specs.Growing.{kept_of, kept_below, KeptTo}
use Rattle.forest.specs.Readings.{Reads, count_of}
use Rattle.forest.proofs.GrowSteps.{kept_in}
use Rattle.forest.proofs.ReadTables as read
use Rattle.solver.specs.Narrowing.{is_root, NumberedTo}

squeezed : (r l a b : ℕ) → a ≡ l → a ≤ r → b ≡ r → b ≤ l → r ≡ l
squeezed r l a b p q s t = omega arith

module _ {K : Type 0} (o : Operations K) (laws : Laws o) (t : Table K) (lawful : Lawful o t) (n : Network) (reads : Reads t n) (grower : Grower) (all : KeptTo n (count_of n) grower) where
  abbrev ps : List ℕ
  ps = grower.parts.parents

  -- all kept links are among those joined
  joined_kept : kept_below n (count_of n) ≡ kept t
  joined_kept = fun_ext (λ k. same_test (kept_below n (count_of n) k) (kept_of n k) (λ u. and_left (kept_of n k) (ltb k (count_of n)) u) (λ u. and_both (kept_of n k) (ltb k (count_of n)) u (lt→ltb k (count_of n) (kept_in n k u)))) ∙ read.same_kept t n reads

  pub bits_kept : held grower.tree ≡ kept t
  bits_kept = fun_ext all.bits ∙ joined_kept

  represents : Represents ps (ends t) (kept t)
  represents = subst (Represents ps (ends t)) joined_kept (subst (λ g. Represents ps g (kept_below n (count_of n))) (read.same_graph t n reads) all.parts)

  module _ where
    forest : Forest ps
    forest = grower.parts.lower

    long : length ps ≡ 1024
    long = grower.parts.long

    low_root_lem : (x : ℕ) → root_of ps x ≤ x
    low_root_lem x = root_lower ps forest x (root_of ps x) (leads ps forest x)

    -- a root is the lowest point of its part
    pub root_is_lowest : (x : ℕ) → x < 1024 → root_of ps x ≡ lowest_of t x
    root_is_lowest x l =
        let r = root_of ps x in
        let low = lowest_of t x in
        let finite = graphs.finite o laws t lawful in
        let below-x = low_root_lem x in
        let low_x = label_low (ends t) (link_count t) (kept t) x in
        let x-in : x < length ps = omega (arith, long, l) in
        let r-in : r < length ps = omega (arith, x-in, below-x) in
        let low-in : low < length ps = omega (arith, x-in, low_x) in
        let up = (represents r x r-in x-in).0 (own_root ps r (root_is_root ps forest x)) in
        let same-label = eqb→eq (lowest_of t r) low (joined_is (ends t) (link_count t) finite (kept t) r x up) in
        let down = is_joined (ends t) (link_count t) finite (kept t) low x (subst (λ y. T (eqb y low)) (sym (label_idle (ends t) (link_count t) (kept t) x)) (eqb_refl low)) in
        squeezed r low (lowest_of t r) (root_of ps low) same-label (label_low (ends t) (link_count t) (kept t) r) ((represents low x low-in x-in).1 down) (low_root_lem low)

    count_roots : (m : ℕ) → m ≤ 1024 → count (is_root (root_of ps)) m ≡ count (is_lowest t) m
    count_roots m h = count_same (is_root (root_of ps)) (is_lowest t) m (λ k l u. subst (λ y. T (eqb y k)) (root_is_lowest k (omega arith)) u) (λ k l u. subst (λ y. T (eqb y k)) (sym (root_is_lowest k (omega arith))) u)

    -- so the points are numbered by their parts
    module _ (parts : List ℕ) (next : ℕ) (done : NumberedTo (root_of ps) t.points parts next) where
      pub points_are : next ≡ count (is_lowest t) t.points
      points_are = done.counted ∙ count_roots t.points lawful.few

      pub part_is : (x : ℕ) → x < t.points → get_or parts x 0 ≡ part_of t x
      part_is x l =
          let few = lawful.few in
          let low = low_root_lem x in
          done.part x l ∙ count_roots (root_of ps x) (omega arith) ∙ ap (count (is_lowest t)) (root_is_lowest x (omega arith))
