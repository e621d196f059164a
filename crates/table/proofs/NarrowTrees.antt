-- The lawful trees of a narrowing are those below without the kept links, and cost the same.
use Rattle.std.proofs.Common.{◌≡◌, ℕ, zero, suc, ◌<◌, ◌≤◌, Bool, cond, not, ◌&&◌, ◌||◌, T, sym, refl, ap, ◌∙◌, subst, inl, inr, arith}
use native.Mathlib.Decide.{dec_lt}
use Rattle.std.proofs.lemmas.List.{get_or_past}
use Rattle.price.specs.Kind.{Operations, Laws}
use Rattle.spanning.specs.Contraction as contraction
use Rattle.spanning.specs.Costs.{cost}
use Rattle.spanning.specs.Joined.{Joined, Spans, NoRing}
use Rattle.spanning.specs.Lawful.{AllJoined}
use Rattle.spanning.specs.Sets.{without_link, count}
use Rattle.spanning.specs.Trees.{Tree}
use Rattle.spanning.proofs.Chains.{wider}
use Rattle.spanning.proofs.Contracted as contracted
use Rattle.spanning.proofs.Subsets.{or_left, or_right, or_cases, and_both, and_left, and_right, not_from, true_or, without_in, without_old, without_apart}
use Rattle.table.specs.Narrowed.{part_of, between, numbers, narrowed, number_below, point_below, lowered, lifted}
use Rattle.table.specs.Ranks.{ends, link_count, kept, free, price_of, before}
use Rattle.table.specs.Table.{Table, Lawful}
use Rattle.table.specs.Trees.{LawfulTreeOf, cost_of, is_spanned}
use Rattle.table.proofs.Graphs as graphs
use Rattle.table.proofs.Narrow as narrow
use Rattle.table.proofs.Numbers.{length_numbers, is_true, is_false}
use Rattle.table.proofs.Order.{free_below_lem, kept_below_lem}
use Rattle.table.proofs.Parts as parts

module _ {K : Type 0} (o : Operations K) (laws : Laws o) (t : Table K) (lawful : Lawful o t) (ring : NoRing (ends t) (kept t)) where
  abbrev N : Table K
  N = narrowed o t

  abbrev b : ℕ → ℕ
  b = number_below t

  abbrev pos : ℕ → ℕ
  pos k = count (between t) k

  lawful_n : Lawful o N
  lawful_n = narrow.narrowed_lawful o laws t lawful ring

  -- a set of the narrowing's links, below and without the kept ones
  abbrev image : (ℕ → Bool) → ℕ → Bool
  image X k = between t k && X (pos k)

  image_between : (X : ℕ → Bool) (k : ℕ) → T (image X k) → T (between t k)
  image_between X k u = and_left (between t k) (X (pos k)) u

  image_own : (X : ℕ → Bool) (k : ℕ) → T (image X k) → T (X (pos k))
  image_own X k u = and_right (between t k) (X (pos k)) u

  abbrev in_c : (ℕ → Bool) → ℕ → Bool
  in_c = contraction.contracted (is_spanned t) (kept t) (free t)

  same_place : (j k : ℕ) → T (between t j) → T (between t k) → pos j ≡ pos k → j ≡ k
  same_place j k bj bk e = sym (parts.number_of_place o laws t lawful j bj) ∙ ap b e ∙ parts.number_of_place o laws t lawful k bk

  -- from above to below
  module _ (X : ℕ → Bool) (tree : LawfulTreeOf N X) where
    tree_n : Tree (is_spanned N) (kept N) (free N) (before o N) X
    tree_n = graphs.tree_of o laws N lawful_n X tree

    alone_c : (e : ℕ) → T (image X e) → T (in_c (without_link (image X) e) e) → ⊥
    alone_c e u s =
        let i = pos e in
        let be = image_between X e u in
        let li = parts.place_below o laws t lawful e be in
        let below : Spans (ends t) (λ k. kept t k || without_link (image X) e k) e = graphs.from_test o laws t lawful (λ k. kept t k || without_link (image X) e k) e s in
        let wide : Spans (ends t) (lowered t (without_link X i)) e = wider (ends t) (λ k. kept t k || without_link (image X) e k) (lowered t (without_link X i)) (λ k v. elim (or_cases (kept t k) (without_link (image X) e k) v) [
          | inl own ↦ or_left (kept t k) (between t k && without_link X i (pos k)) own
          | inr w ↦
              let wk = without_old (image X) e k w in
              let bk = image_between X k wk in
              parts.lower_in o laws t lawful (without_link X i) k bk (without_in X i (pos k) (image_own X k wk) (λ q. without_apart (image X) e k w (same_place k e bk be q)))
        ]) ((ends t).first e) ((ends t).second e) below in
        tree.no_ring i (image_own X e u) (parts.spans_up o laws t lawful (without_link X i) i li (subst (Spans (ends t) (lowered t (without_link X i))) (sym (parts.number_of_place o laws t lawful e be)) wide))

    spans_c : (k : ℕ) → T (between t k) → T (in_c (image X) k)
    spans_c k bk =
        let i = pos k in
        let li = parts.place_below o laws t lawful k bk in
        let above = graphs.from_test o laws N lawful_n X i (tree_n.spans i (or_right (kept N i) (free N i) (narrow.free_above o laws t lawful i li))) in
        graphs.to_test o laws t lawful (lowered t X) k (subst (Spans (ends t) (lowered t X)) (parts.number_of_place o laws t lawful k bk) (parts.spans_down o laws t lawful X i li above))

    tree_c : Tree in_c contraction.nothing_kept (contraction.between (is_spanned t) (kept t) (free t)) (before o t) (image X)
    tree_c = record {
      independent = alone_c;
      holds_kept = λ k u. absurd u;
      usable = λ k u. image_between X k u;
      spans = spans_c;
    }

    all_below : AllJoined (ends t) t.points (kept t) (free t)
    all_below x l =
        let chain = tree.joins_all (part_of t x) (parts.part_below_lem o laws t lawful x l) in
        wider (ends t) (lowered t X) (λ k. kept t k || free t k) (λ k u. elim (parts.lower_cases o laws t lawful X k u) [
          | inl own ↦ or_left (kept t k) (free t k) own
          | inr v ↦ or_right (kept t k) (free t k) (and_left (free t k) (not (is_spanned t (kept t) k)) v.0)
        ]) 0 x (parts.chain_down o laws t lawful X 0 x (subst (λ p. Joined (ends N) X p (part_of t x)) (sym (parts.part_0 o laws t lawful)) chain))

    pub tree_below_lem : LawfulTreeOf t (lowered t X)
    tree_below_lem = graphs.of_tree o laws t lawful all_below (lowered t X) (contracted.tree_below_lem (is_spanned t) (graphs.closed o laws t lawful) (link_count t) (kept t) (free t) (before o t) (graphs.ranked o laws t lawful) (graphs.alone o laws t lawful ring) (image X) tree_c)

  -- from below to above
  module _ (Y : ℕ → Bool) (tree : LawfulTreeOf t Y) where
    -- a free link of a lawful tree is between parts
    pub loose_between : (k : ℕ) → T (Y k) → T (free t k) → T (between t k)
    loose_between k u fk = and_both (free t k) (not (is_spanned t (kept t) k)) fk (not_from (is_spanned t (kept t) k) (λ s.
        tree.no_ring k u (wider (ends t) (kept t) (without_link Y k) (λ j v. without_in Y k j (tree.holds_kept j v) (λ q. (graphs.ranked o laws t lawful).apart k (subst (λ i. T (kept t i)) q v) fk)) ((ends t).first k) ((ends t).second k) (graphs.from_test o laws t lawful (kept t) k s))))

    pub up_down : (k : ℕ) → T (Y k) → T (lowered t (lifted t Y) k)
    up_down k u = elim (or_cases (kept t k) (free t k) (tree.no_barred k u)) [
      | inl own ↦ or_left (kept t k) (between t k && lifted t Y (pos k)) own
      | inr fk ↦ let bk = loose_between k u fk in parts.lower_in o laws t lawful (lifted t Y) k bk (subst (λ j. T (Y j)) (sym (parts.number_of_place o laws t lawful k bk)) u)
    ]

    pub down_up : (k : ℕ) → T (lowered t (lifted t Y) k) → T (Y k)
    down_up k u = elim (parts.lower_cases o laws t lawful (lifted t Y) k u) [
      | inl own ↦ tree.holds_kept k own
      | inr v ↦ subst (λ j. T (Y j)) (parts.number_of_place o laws t lawful k v.0) v.1
    ]

    pub lifted_below : (i : ℕ) → T (lifted t Y i) → i < link_count N
    lifted_below i u = elim (dec_lt i (link_count N)) [
      | yes l ↦ l
      | no l ↦ absurd (
          let e : b i ≡ link_count t = get_or_past (numbers t) i (link_count t) (let m = parts.link_count_lem o laws t lawful in let n = length_numbers (between t) (link_count t) in omega arith) in
          let v = tree.no_barred (link_count t) (subst (λ j. T (Y j)) e u) in
          elim (or_cases (kept t (link_count t)) (free t (link_count t)) v) [
            | inl w ↦ (let less = kept_below_lem t (link_count t) w in omega arith)
            | inr w ↦ (let less = free_below_lem t (link_count t) w in omega arith)
          ])
    ]

    -- without one link
    pub up_down_less : (f k : ℕ) → f < link_count N → T (without_link Y (b f) k) → T (lowered t (without_link (lifted t Y) f) k)
    up_down_less f k lf u =
        let apart = without_apart Y (b f) k u in
        elim (parts.lower_cases o laws t lawful (lifted t Y) k (up_down k (without_old Y (b f) k u))) [
          | inl own ↦ or_left (kept t k) (between t k && without_link (lifted t Y) f (pos k)) own
          | inr v ↦ parts.lower_in o laws t lawful (without_link (lifted t Y) f) k v.0 (without_in (lifted t Y) f (pos k) v.1 (λ q. apart (sym (parts.number_of_place o laws t lawful k v.0) ∙ ap b q)))
        ]

    pub down_up_less : (f k : ℕ) → f < link_count N → T (lowered t (without_link (lifted t Y) f) k) → T (without_link Y (b f) k)
    down_up_less f k lf u =
        let s = parts.number_at o laws t lawful f lf in
        elim (parts.lower_cases o laws t lawful (without_link (lifted t Y) f) k u) [
          | inl own ↦ without_in Y (b f) k (tree.holds_kept k own) (λ q. (graphs.ranked o laws t lawful).apart k own (subst (λ j. T (free t j)) (sym q) (and_left (free t (b f)) (not (is_spanned t (kept t) (b f))) s.passes)))
          | inr v ↦ without_in Y (b f) k (down_up k (parts.lower_in o laws t lawful (lifted t Y) k v.0 (without_old (lifted t Y) f (pos k) v.1))) (λ q. without_apart (lifted t Y) f (pos k) v.1 (ap pos q ∙ s.place))
        ]

    pub tree_above_lem : LawfulTreeOf N (lifted t Y)
    tree_above_lem = record {
      joins_all = λ p l.
          let x = parts.point_of o laws t lawful p l in
          subst (Joined (ends N) (lifted t Y) 0) x.part (subst (λ q. Joined (ends N) (lifted t Y) q (part_of t (point_below t p))) (parts.part_0 o laws t lawful)
          (parts.chain_up o laws t lawful (lifted t Y) 0 (point_below t p) (wider (ends t) Y (lowered t (lifted t Y)) up_down 0 (point_below t p) (tree.joins_all (point_below t p) x.below))));
      no_ring = λ i u c.
          let l = lifted_below i u in
          tree.no_ring (b i) u (wider (ends t) (lowered t (without_link (lifted t Y) i)) (without_link Y (b i)) (λ k v. down_up_less i k l v) ((ends t).first (b i)) ((ends t).second (b i)) (parts.spans_down o laws t lawful (without_link (lifted t Y) i) i l c));
      holds_kept = λ i u. absurd (narrow.none_kept o laws t lawful i u);
      no_barred = λ i u. or_right (kept N i) (free N i) (narrow.free_above o laws t lawful i (lifted_below i u));
    }

  -- costs
  price_at : (k : ℕ) → T (between t k) → price_of o N (pos k) ≡ price_of o t k
  price_at k bk = narrow.price_above o laws t lawful (pos k) (parts.place_below o laws t lawful k bk) ∙ ap (price_of o t) (parts.number_of_place o laws t lawful k bk)

  renumbered : (X : ℕ → Bool) (c : K) (m : ℕ) → m ≤ link_count t → cost o c (price_of o N) (count (between t) m) X ≡ cost o c (price_of o t) m (image X)
  renumbered X c zero l = refl
  renumbered X c (suc m) l = elim (true_or (between t m)) [
    | inl bm ↦
        let rest = renumbered X c m (omega arith) in
        let one : count (between t) (suc m) ≡ suc (count (between t) m) = (let e : cond {A = ℕ} (between t m) 1 0 ≡ 1 = ap (λ x. cond {A = ℕ} x 1 0) (is_true (between t m) bm) in omega arith) in
        ap (λ i. cost o c (price_of o N) i X) one
        ∙ ap (λ v. cond (X (pos m)) (o.plus v (price_of o N (pos m))) v) rest
        ∙ ap (λ p. cond (X (pos m)) (o.plus (cost o c (price_of o t) m (image X)) p) (cost o c (price_of o t) m (image X))) (price_at m bm)
        ∙ ap (λ x. cond x (o.plus (cost o c (price_of o t) m (image X)) (price_of o t m)) (cost o c (price_of o t) m (image X))) (sym (ap (λ x. x && X (pos m)) (is_true (between t m) bm)))
    | inr gone ↦
        let rest = renumbered X c m (omega arith) in
        let none : count (between t) (suc m) ≡ count (between t) m = (let e : cond {A = ℕ} (between t m) 1 0 ≡ 0 = ap (λ x. cond {A = ℕ} x 1 0) (is_false (between t m) gone) in omega arith) in
        ap (λ i. cost o c (price_of o N) i X) none
        ∙ rest
        ∙ ap (λ x. cond x (o.plus (cost o c (price_of o t) m (image X)) (price_of o t m)) (cost o c (price_of o t) m (image X))) (sym (ap (λ x. x && X (pos m)) (is_false (between t m) gone)))
  ]

  pub costs_below : (X : ℕ → Bool) → cost_of o N X ≡ cost_of o t (lowered t X)
  costs_below X =
      ap (λ i. cost o (cost_of o t (kept t)) (price_of o N) i X) (parts.link_count_lem o laws t lawful)
      ∙ renumbered X (cost_of o t (kept t)) (link_count t) (omega arith)
      ∙ contracted.cost_above (is_spanned t) (graphs.closed o laws t lawful) (link_count t) (kept t) (free t) (before o t) (graphs.ranked o laws t lawful) (graphs.alone o laws t lawful ring) o laws t.carried (price_of o t) (graphs.priced o laws t lawful) (image X) (λ k u. image_between X k u)
