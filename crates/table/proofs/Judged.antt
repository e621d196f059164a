-- The verdict computed is the one that is true, and the only one.
use Rattle.std.proofs.Common.{◌≡◌, ℕ, zero, suc, ◌<◌, Bool, true, false, cond, not, ◌&&◌, T, ltb, Some, None, Option, sym, refl, ap, ◌∙◌, subst, inl, inr, arith, ltb→lt, lt→ltb}
use native.Mathlib.Decide.{dec_lt}
use Rattle.price.specs.Kind.{Operations, Laws}
use Rattle.spanning.specs.Closure.{share_label}
use Rattle.spanning.specs.Joined.{Joined, Spans, NoRing}
use Rattle.spanning.specs.Lawful.{AllJoined}
use Rattle.spanning.specs.Sets.{with_link, without_link}
use Rattle.spanning.proofs.Chains.{wider}
use Rattle.spanning.proofs.LabelsDecide.{joined_is, is_joined}
use Rattle.spanning.proofs.Greedy.{add_one, more}
use Rattle.spanning.proofs.Subsets.{and_both, and_left, and_right, not_from, not_to, true_or, same_or, with_new, with_old, without_in, without_old, without_apart}
use Rattle.table.specs.declared.verdicts.Verdict.{Verdict}
use Rattle.table.specs.declared.verdicts.Verdict.TheVariants as verdict
use Rattle.table.specs.Laws.{Judges}
use Rattle.table.specs.Ranks.{ends, link_count, kept, free, usable}
use Rattle.table.specs.Table.{Table, Lawful}
use Rattle.table.specs.Trees.{is_spanned, shown}
use Rattle.table.specs.Verdicts.{kept_under, RingAt, CutAt, LeastCost, VerdictIs, or_else, lowest, ring_link, cut_point, least_cost, judged, verdict_of}
use Rattle.table.proofs.Graphs as graphs
use Rattle.table.proofs.Order.{kept_below_lem}
use Rattle.table.proofs.Shown.{is_shown_lem, sole, same_cost}

-- what the search for the lowest number finds
pub data Found (n : ℕ) (P : ℕ → Bool) : Option ℕ → Type 0 where
  some : (k : ℕ) → k < n → T (P k) → ((j : ℕ) → j < k → T (P j) → ⊥) → Found n P (Some k)
  none : ((k : ℕ) → k < n → T (P k) → ⊥) → Found n P None

found_next : (n : ℕ) (P : ℕ → Bool) (r : Option ℕ) → Found n P r → Found (suc n) P (or_else r (cond (P n) (Some n) None))
found_next n P r (some k l u least) = some k (omega arith) u least
found_next n P r (none h) = elim (true_or (P n)) [
  | inl u ↦ subst (λ b. Found (suc n) P (cond b (Some n) None)) (sym (is_true (P n) u)) (some n (omega arith) u h)
  | inr v ↦ subst (λ b. Found (suc n) P (cond b (Some n) None)) (sym (is_false (P n) v)) (none (λ k l u. elim (same_or k n) [
    | inl q ↦ v (subst (λ j. T (P j)) q u)
    | inr apart ↦ h k (omega arith) u
  ]))
] where
  is_true : (b : Bool) → T b → b ≡ true
  is_true true u = refl
  is_true false u = absurd u

  is_false : (b : Bool) → (T b → ⊥) → b ≡ false
  is_false true u = absurd (u tt)
  is_false false u = refl

pub search_lowest : (n : ℕ) (P : ℕ → Bool) → Found n P (lowest n P)
search_lowest zero P = none (λ k l u. omega arith)
search_lowest (suc n) P = found_next n P (lowest n P) (search_lowest n P)

module _ {K : Type 0} (o : Operations K) (laws : Laws o) (t : Table K) (lawful : Lawful o t) where
  abbrev closes_test : ℕ → Bool
  closes_test k = kept t k && is_spanned t (kept_under t k) k

  abbrev apart_test : ℕ → Bool
  apart_test x = not (share_label (ends t) (link_count t) (usable t) 0 x)

  -- kept links of lower number that join the ends of a kept link close a ring with it
  closed_ring : (l : ℕ) → T (kept t l) → Spans (ends t) (kept_under t l) l → NoRing (ends t) (kept t) → ⊥
  closed_ring l own c ring =
      ring l own (wider (ends t) (kept_under t l) (without_link (kept t) l) (λ k u. without_in (kept t) l k (and_left (kept t k) (ltb k l) u) (λ q. let less = ltb→lt k l (and_right (kept t k) (ltb k l) u) in omega arith)) ((ends t).first l) ((ends t).second l) c)

  -- where no kept link closes a ring with those of lower number, those below m are independent
  alone_under : ((k : ℕ) → k < link_count t → T (closes_test k) → ⊥) → (m : ℕ) (e : ℕ) → T (kept_under t m e) → T (is_spanned t (without_link (kept_under t m) e) e) → ⊥
  alone_under no-link zero e u s = absurd (let less = ltb→lt e 0 (and_right (kept t e) (ltb e 0) u) in omega arith)
  alone_under no-link (suc m) e u s =
      let closed = graphs.closed o laws t lawful in
      elim (true_or (kept t m)) [
        | inl own ↦ add_one (is_spanned t) closed (kept_under t m) (kept_under t (suc m)) m
            (λ k v. elim (same_or k m) [
              | inl q ↦ subst (λ j. T (with_link (kept_under t m) m j)) (sym q) (with_new (kept_under t m) m)
              | inr apart ↦ with_old (kept_under t m) m k (and_both (kept t k) (ltb k m) (and_left (kept t k) (ltb k (suc m)) v) (lt→ltb k m (let less = ltb→lt k (suc m) (and_right (kept t k) (ltb k (suc m)) v) in omega arith)))
            ])
            (alone_under no-link m) (λ v. no-link m (kept_below_lem t m own) (and_both (kept t m) (is_spanned t (kept_under t m) m) own v)) e u s
        | inr gone ↦
            let inside : (k : ℕ) → T (kept_under t (suc m) k) → T (kept_under t m k) = λ k v. and_both (kept t k) (ltb k m) (and_left (kept t k) (ltb k (suc m)) v) (lt→ltb k m (elim (same_or k m) [
              | inl q ↦ absurd (gone (subst (λ j. T (kept t j)) q (and_left (kept t k) (ltb k (suc m)) v)))
              | inr apart ↦ (let less = ltb→lt k (suc m) (and_right (kept t k) (ltb k (suc m)) v) in omega arith)
            ])) in
            alone_under no-link m e (inside e u) (more (is_spanned t) closed (without_link (kept_under t (suc m)) e) (without_link (kept_under t m) e) (λ k v. without_in (kept_under t m) e k (inside k (without_old (kept_under t (suc m)) e k v)) (without_apart (kept_under t (suc m)) e k v)) e s)
      ]

  pub no_ring_link : ((k : ℕ) → k < link_count t → T (closes_test k) → ⊥) → NoRing (ends t) (kept t)
  no_ring_link no-link e own c =
      let n = link_count t in
      let inside : (k : ℕ) → T (kept t k) → T (kept_under t n k) = λ k v. and_both (kept t k) (ltb k n) v (lt→ltb k n (kept_below_lem t k v)) in
      alone_under no-link n e (inside e own) (graphs.to_test o laws t lawful (without_link (kept_under t n) e) e (wider (ends t) (without_link (kept t) e) (without_link (kept_under t n) e) (λ k v. without_in (kept_under t n) e k (inside k (without_old (kept t) e k v)) (without_apart (kept t) e k v)) ((ends t).first e) ((ends t).second e) c))

  ring_here : (l : ℕ) → T (closes_test l) → ((j : ℕ) → j < l → T (closes_test j) → ⊥) → RingAt t l
  ring_here l u least = record {
    is_kept = and_left (kept t l) (is_spanned t (kept_under t l) l) u;
    closes = graphs.from_test o laws t lawful (kept_under t l) l (and_right (kept t l) (is_spanned t (kept_under t l) l) u);
    lowest = λ k less own c. least k less (and_both (kept t k) (is_spanned t (kept_under t k) k) own (graphs.to_test o laws t lawful (kept_under t k) k c));
  }

  joined_0 : (x : ℕ) → Joined (ends t) (usable t) 0 x → T (share_label (ends t) (link_count t) (usable t) 0 x)
  joined_0 x c = joined_is (ends t) (link_count t) (graphs.finite o laws t lawful) (usable t) 0 x c

  zero_joined : (x : ℕ) → T (share_label (ends t) (link_count t) (usable t) 0 x) → Joined (ends t) (usable t) 0 x
  zero_joined x u = is_joined (ends t) (link_count t) (graphs.finite o laws t lawful) (usable t) 0 x u

  not_apart : (x : ℕ) → (T (apart_test x) → ⊥) → Joined (ends t) (usable t) 0 x
  not_apart x n = elim (true_or (share_label (ends t) (link_count t) (usable t) 0 x)) [
    | inl u ↦ zero_joined x u
    | inr v ↦ absurd (n (not_from (share_label (ends t) (link_count t) (usable t) 0 x) v))
  ]

  is_apart : (x : ℕ) → T (apart_test x) → Joined (ends t) (usable t) 0 x → ⊥
  is_apart x u c = not_to (share_label (ends t) (link_count t) (usable t) 0 x) u (joined_0 x c)

  cut_here : (p : ℕ) → p < t.points → T (apart_test p) → ((j : ℕ) → j < p → T (apart_test j) → ⊥) → CutAt t p
  cut_here p l u least = record { below = l; apart = is_apart p u; lowest = λ x less. not_apart x (least x less) }

  least_here : NoRing (ends t) (kept t) → AllJoined (ends t) t.points (kept t) (free t) → LeastCost o t (least_cost o t)
  least_here ring all = record {
    tree = shown o t;
    is_shown = is_shown_lem o laws t lawful ring all;
    costs = refl;
    least = (graphs.verdicts o laws t lawful o.zero laws.zero_budget).least;
  }

  module _ (budget : K) (limited : T (o.budget budget)) where
    by_cost : NoRing (ends t) (kept t) → AllJoined (ends t) t.points (kept t) (free t) → (b : Bool) → b ≡ o.not_above (least_cost o t) budget → VerdictIs o t budget (judged None None (least_cost o t) b)
    by_cost ring all true e = (least_here ring all, subst T e tt)
    by_cost ring all false e = (least_here ring all, (λ X f. subst T (sym e) ((graphs.verdicts o laws t lawful budget limited).fits X f.lawful f.within)))

    by_cut : NoRing (ends t) (kept t) → (c : Option ℕ) → Found t.points apart_test c → VerdictIs o t budget (judged None c (least_cost o t) (o.not_above (least_cost o t) budget))
    by_cut ring c (some p l u least) = (ring, cut_here p l u least, (λ X tree. is_apart p u (graphs.all_joined_lem o laws t lawful X tree p l)))
    by_cut ring c (none h) = by_cost ring (λ x l. not_apart x (h x l)) (o.not_above (least_cost o t) budget) refl

    by_ring : (r : Option ℕ) → Found (link_count t) closes_test r → VerdictIs o t budget (judged r (cut_point t) (least_cost o t) (o.not_above (least_cost o t) budget))
    by_ring r (some l less u least) = (ring_here l u least, (λ X tree. closed_ring l (ring_here l u least).is_kept (ring_here l u least).closes (graphs.no_ring_lem o laws t lawful X tree)))
    by_ring r (none h) = by_cut (no_ring_link h) (cut_point t) (search_lowest t.points apart_test)

    pub judged_true : VerdictIs o t budget (verdict_of o t budget)
    judged_true = by_ring (ring_link t) (search_lowest (link_count t) closes_test)

    -- the only one
    ring_only : (l : ℕ) → RingAt t l → (r : Option ℕ) → Found (link_count t) closes_test r → verdict.Ring l ≡ judged r (cut_point t) (least_cost o t) (o.not_above (least_cost o t) budget)
    ring_only l at r (some k less u least) = ap verdict.Ring (one_lowest l k closes_test (test_of at) (λ j m v. at.lowest j m (ring_here_kept j v) (ring_here_spans j v)) u least) where
      test_of : RingAt t l → T (closes_test l)
      test_of a = and_both (kept t l) (is_spanned t (kept_under t l) l) a.is_kept (graphs.to_test o laws t lawful (kept_under t l) l a.closes)

      ring_here_kept : (j : ℕ) → T (closes_test j) → T (kept t j)
      ring_here_kept j v = and_left (kept t j) (is_spanned t (kept_under t j) j) v

      ring_here_spans : (j : ℕ) → T (closes_test j) → Spans (ends t) (kept_under t j) j
      ring_here_spans j v = graphs.from_test o laws t lawful (kept_under t j) j (and_right (kept t j) (is_spanned t (kept_under t j) j) v)

      one_lowest : (a b : ℕ) (P : ℕ → Bool) → T (P a) → ((j : ℕ) → j < a → T (P j) → ⊥) → T (P b) → ((j : ℕ) → j < b → T (P j) → ⊥) → a ≡ b
      one_lowest a b P ta la tb lb = elim (dec_lt a b) [
        | yes l ↦ absurd (lb a l ta)
        | no l ↦ elim (dec_lt b a) [ yes m ↦ absurd (la b m tb) | no m ↦ omega arith ]
      ]
    ring_only l at r (none h) = absurd (closed_ring l at.is_kept at.closes (no_ring_link h))

    no_ring_found : NoRing (ends t) (kept t) → (r : Option ℕ) → Found (link_count t) closes_test r → r ≡ None
    no_ring_found ring r (some l less u least) = absurd (closed_ring l (ring_here l u least).is_kept (ring_here l u least).closes ring)
    no_ring_found ring r (none h) = refl

    no_cut_found : AllJoined (ends t) t.points (kept t) (free t) → (c : Option ℕ) → Found t.points apart_test c → c ≡ None
    no_cut_found all c (some p l u least) = absurd (is_apart p u (all p l))
    no_cut_found all c (none h) = refl

    cut_only : (p : ℕ) → CutAt t p → (c : Option ℕ) → Found t.points apart_test c → c ≡ Some p
    cut_only p at c (some q l u least) = elim (dec_lt p q) [
      | yes m ↦ absurd (least p m (not_from (share_label (ends t) (link_count t) (usable t) 0 p) (λ v. at.apart (zero_joined p v))))
      | no m ↦ elim (dec_lt q p) [ yes k ↦ absurd (is_apart q u (at.lowest q k)) | no k ↦ ap Some (omega arith) ]
    ]
    cut_only p at c (none h) = absurd (h p at.below (not_from (share_label (ends t) (link_count t) (usable t) 0 p) (λ v. at.apart (zero_joined p v))))

    with_tree : (c : K) → LeastCost o t c → (b : Bool) → o.not_above c budget ≡ b → verdict_of o t budget ≡ cond b (verdict.Fits c) (verdict.Over c)
    with_tree c least b e =
        let tree = least.is_shown.lawful in
        let same : least_cost o t ≡ c = sym (same_cost o laws t lawful least.tree (shown o t) (sole o laws t lawful least.tree least.is_shown)) ∙ least.costs in
        let ring = no_ring_found (graphs.no_ring_lem o laws t lawful least.tree tree) (ring_link t) (search_lowest (link_count t) closes_test) in
        let cut = no_cut_found (graphs.all_joined_lem o laws t lawful least.tree tree) (cut_point t) (search_lowest t.points apart_test) in
        ap (λ r. judged r (cut_point t) (least_cost o t) (o.not_above (least_cost o t) budget)) ring
        ∙ ap (λ q. judged None q (least_cost o t) (o.not_above (least_cost o t) budget)) cut
        ∙ ap (λ x. cond (o.not_above x budget) (verdict.Fits x) (verdict.Over x)) same
        ∙ ap (λ q. cond q (verdict.Fits c) (verdict.Over c)) e

    is_yes : (b : Bool) → T b → b ≡ true
    is_yes true u = refl
    is_yes false u = absurd u

    is_no : (b : Bool) → (T b → ⊥) → b ≡ false
    is_no true u = absurd (u tt)
    is_no false u = refl

    pub judged_only : (v : Verdict K) → VerdictIs o t budget v → v ≡ verdict_of o t budget
    judged_only (verdict.Ring l) h = ring_only l h.0 (ring_link t) (search_lowest (link_count t) closes_test)
    judged_only (verdict.Cut p) h =
        sym (ap (λ r. judged r (cut_point t) (least_cost o t) (o.not_above (least_cost o t) budget)) (no_ring_found h.0 (ring_link t) (search_lowest (link_count t) closes_test))
        ∙ ap (λ q. judged None q (least_cost o t) (o.not_above (least_cost o t) budget)) (cut_only p h.1 (cut_point t) (search_lowest t.points apart_test)))
    judged_only (verdict.Over c) h =
        let least = h.0 in
        sym (with_tree c least false (is_no (o.not_above c budget) (λ u. h.1 least.tree (record { lawful = least.is_shown.lawful; within = subst (λ x. T (o.not_above x budget)) (sym least.costs) u }))))
    judged_only (verdict.Fits c) h = sym (with_tree c h.0 true (is_yes (o.not_above c budget) h.1))

    pub judges : Judges o t budget
    judges = record { true = judged_true; only = judged_only }
