-- Every lawful tree of a table has one link fewer than the table has points.
use Rattle.std.proofs.Common.{◌≡◌, ℕ, zero, suc, ◌<◌, ◌≤◌, Bool, true, false, cond, not, ◌&&◌, T, eqb, sym, refl, ◌∙◌, subst, inl, inr, arith, eqb→eq}
use lib.Dec.{eqb_refl}
use Rattle.price.specs.Kind.{Operations, Laws}
use Rattle.spanning.specs.Closure.{label_of, Finite}
use Rattle.spanning.specs.Sets.{count, without_link}
use Rattle.spanning.proofs.LabelsDecide.{joined_is}
use Rattle.spanning.proofs.Few.{label_low, parts_and_links}
use Rattle.spanning.proofs.Search.{find, count_less, count_without}
use Rattle.spanning.proofs.Subsets.{or_cases, and_both, and_left, and_right, not_from, not_to, true_or, without_old, without_apart}
use Rattle.table.specs.Ranks.{ends, link_count, kept, free}
use Rattle.table.specs.Table.{Table, Lawful}
use Rattle.table.specs.Trees.{LawfulTreeOf}
use Rattle.table.proofs.Graphs as graphs
use Rattle.table.proofs.Order.{kept_below_lem, free_below_lem}

not_counted : (b : Bool) → (T b → ⊥) → cond {A = ℕ} b 1 0 ≡ 0
not_counted true n = absurd (n tt)
not_counted false n = omega arith

count_none : (P : ℕ → Bool) (n : ℕ) → ((k : ℕ) → k < n → T (P k) → ⊥) → count P n ≡ 0
count_none P zero h = refl
count_none P (suc n) h =
    let rest = count_none P n (λ k l. h k (omega arith)) in
    let last = not_counted (P n) (h n (omega arith)) in
    omega arith

-- a test that only 0 passes
count_zero_only : (P : ℕ → Bool) (n : ℕ) → 0 < n → T (P 0) → ((k : ℕ) → k < n → T (P k) → k ≡ 0) → count P n ≡ 1
count_zero_only P n some own only =
    let gone = count_without P n 0 some own in
    let none = count_none (without_link P 0) n (λ k l s. without_apart P 0 k s (only k l (without_old P 0 k s))) in
    omega arith

-- where one of two sets with equally many numbers below n has a number that the other lacks, the other has one that it lacks
pub other_way : (P Q : ℕ → Bool) (n : ℕ) → count P n ≡ count Q n → (a : ℕ) → a < n → T (P a) → (T (Q a) → ⊥) → (b : ℕ) × T (Q b) × (T (P b) → ⊥)
other_way P Q n same a l own out =
    elim (find (λ k. Q k && not (P k)) n) [
      | inl found ↦
          let b = found.0 in
          (b, and_left (Q b) (not (P b)) found.2, not_to (P b) (and_right (Q b) (not (P b)) found.2))
      | inr none ↦ absurd (
          let within : (k : ℕ) → k < n → T (Q k) → T (P k) = λ k m u. elim (true_or (P k)) [
            | inl s ↦ s
            | inr s ↦ absurd (none k m (and_both (Q k) (not (P k)) u (not_from (P k) s)))
          ] in
          let less = count_less Q P n a within l own out in
          omega arith)
    ]

module _ {K : Type 0} (o : Operations K) (laws : Laws o) (t : Table K) (lawful : Lawful o t) (X : ℕ → Bool) (tree : LawfulTreeOf t X) where
  -- the links of a tree are links of the table
  pub tree_below_lem : (k : ℕ) → T (X k) → k < link_count t
  tree_below_lem k u = elim (or_cases (kept t k) (free t k) (tree.no_barred k u)) [
    | inl v ↦ kept_below_lem t k v
    | inr v ↦ free_below_lem t k v
  ]

  module _ (m : ℕ) (enough : link_count t ≤ m) where
    finite_below : Finite (ends t) m
    finite_below k l = graphs.finite o laws t lawful k (omega arith)

    abbrev label : ℕ → ℕ
    label = label_of (ends t) m X

    -- all points are in the part of point 0
    label_zero : (x : ℕ) → x < t.points → label x ≡ 0
    label_zero x l =
        let same = eqb→eq (label 0) (label x) (joined_is (ends t) m finite_below X 0 x (tree.joins_all x l)) in
        let low = label_low (ends t) m X 0 in
        omega arith

    one_part : count (λ z. eqb (label z) z) t.points ≡ 1
    one_part =
        let some : 0 < t.points = (graphs.on_points o laws t lawful).some in
        count_zero_only (λ z. eqb (label z) z) t.points some
        (subst (λ y. T (eqb y 0)) (sym (label_zero 0 some)) (eqb_refl 0))
        (λ k l u. sym (eqb→eq (label k) k u) ∙ label_zero k l)

    pub tree_size : suc (count X m) ≡ t.points
    tree_size =
        let on = graphs.on_points o laws t lawful in
        let all = parts_and_links (ends t) X t.points tree.no_ring (λ k u. on.first_below k (tree.no_barred k u)) (λ k u. on.second_below k (tree.no_barred k u)) m in
        let one = one_part in
        omega (arith, all, one)
