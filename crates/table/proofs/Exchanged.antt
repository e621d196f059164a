-- Two tables that differ in one link: at most one link leaves the tree shown, and at most one enters, both or neither.
use Rattle.std.proofs.Common.{◌≡◌, ℕ, suc, ◌+◌, ◌<◌, ◌≤◌, Bool, true, false, not, ◌&&◌, ◌||◌, T, ltb, ◌⊎◌, Some, None, Option, sym, refl, ap, ◌∙◌, subst, inl, inr, arith}
use Rattle.std.proofs.lemmas.Option.{slice_get_past}
use Rattle.std.specs.List.{slice_get}
use Rattle.price.specs.Kind.{Operations, Laws}
use Rattle.spanning.specs.Closure.{share_label, Closure, Finite}
use Rattle.spanning.specs.Joined.{Graph, Joined}
use Rattle.spanning.specs.Joined.Joined.{same, forth, back}
use Rattle.spanning.specs.Sets.{count}
use Rattle.spanning.specs.Trees.{Ranked, prior, greedy, NoWorse, AtMostOneLeaves}
use Rattle.spanning.proofs.LabelsDecide.{joined_is, is_joined, graph_closure}
use Rattle.spanning.proofs.Exchange as exchange
use Rattle.spanning.proofs.Subsets.{or_left, or_right, or_cases, and_both, and_left, and_right, true_or, same_or, same_test}
use Rattle.table.specs.declared.links.Link.{Link}
use Rattle.table.specs.Laws.{DifferAt, Exchanges}
use Rattle.table.specs.Ranks.{ends, link_count, kept, free, price_of, price_in, before, role_in, is_kept, is_free, first_end, second_end}
use Rattle.table.specs.Table.{Table, Lawful}
use Rattle.table.specs.Trees.{LawfulTreeOf, TreeShown, shown}
use Rattle.table.proofs.Graphs as graphs
use Rattle.table.proofs.Order.{Why, why, because, compared}
use Rattle.table.proofs.Order.Why.{lower, tied}
use Rattle.table.proofs.Shown.{sole}
use Rattle.table.proofs.TreeSize.{tree_below_lem, tree_size, other_way}

-- chains in two graphs that agree on the links of a set
module _ (g h : Graph) (S : ℕ → Bool) (first_same : (k : ℕ) → T (S k) → g.first k ≡ h.first k) (second_same : (k : ℕ) → T (S k) → g.second k ≡ h.second k) where
  pub carried_over : (x y : ℕ) → Joined g S x y → Joined h S x y
  carried_over x y (same w) = same w
  carried_over x y (forth w k t c) = subst (λ z. Joined h S x z) (sym (second_same k t)) (forth x k t (subst (λ z. Joined h S x z) (first_same k t) (carried_over x (g.first k) c)))
  carried_over x y (back w k t c) = subst (λ z. Joined h S x z) (sym (first_same k t)) (back x k t (subst (λ z. Joined h S x z) (second_same k t) (carried_over x (g.second k) c)))

-- the greedy tree is the same in two graphs that agree on the links that are not barred
module _ (g h : Graph) (n m : ℕ) (finite-g : Finite g n) (finite_h : Finite h m) (kept free : ℕ → Bool) (before : ℕ → ℕ → Bool) (first_same : (k : ℕ) → T (kept k || free k) → g.first k ≡ h.first k) (second_same : (k : ℕ) → T (kept k || free k) → g.second k ≡ h.second k) where
  abbrev in_g : (ℕ → Bool) → ℕ → Bool
  in_g S e = share_label g n S (g.first e) (g.second e)

  abbrev in_h : (ℕ → Bool) → ℕ → Bool
  in_h S e = share_label h m S (h.first e) (h.second e)

  prior_usable : (e k : ℕ) → T (prior in_g kept free before e k) → T (kept k || free k)
  prior_usable e k t = elim (or_cases (kept k) (free k && before k e) t) [
    | inl s ↦ or_left (kept k) (free k) s
    | inr s ↦ or_right (kept k) (free k) (and_left (free k) (before k e) s)
  ]

  over : (e : ℕ) → T (free e) → T (in_g (prior in_g kept free before e) e) → T (in_h (prior in_g kept free before e) e)
  over e fe t =
      let S = prior in_g kept free before e in
      let u = or_right (kept e) (free e) fe in
      joined_is h m finite_h S (h.first e) (h.second e)
      (subst (λ z. Joined h S z (h.second e)) (first_same e u) (subst (λ z. Joined h S (g.first e) z) (second_same e u)
      (carried_over g h S (λ k s. first_same k (prior_usable e k s)) (λ k s. second_same k (prior_usable e k s)) (g.first e) (g.second e) (is_joined g n finite-g S (g.first e) (g.second e) t))))

  under : (e : ℕ) → T (free e) → T (in_h (prior in_g kept free before e) e) → T (in_g (prior in_g kept free before e) e)
  under e fe t =
      let S = prior in_g kept free before e in
      let u = or_right (kept e) (free e) fe in
      joined_is g n finite-g S (g.first e) (g.second e)
      (subst (λ z. Joined g S z (g.second e)) (sym (first_same e u)) (subst (λ z. Joined g S (h.first e) z) (sym (second_same e u))
      (carried_over h g S (λ k s. sym (first_same k (prior_usable e k s))) (λ k s. sym (second_same k (prior_usable e k s))) (h.first e) (h.second e) (is_joined h m finite_h S (h.first e) (h.second e) t))))

  pub same_greedy : (e : ℕ) → greedy in_g kept free before e ≡ greedy in_h kept free before e
  same_greedy e = elim (true_or (free e)) [
    | inl fe ↦ ap (λ b. kept e || (free e && not b)) (same_test (in_g (prior in_g kept free before e) e) (in_h (prior in_g kept free before e) e) (over e fe) (under e fe))
    | inr out ↦ ap (λ b. kept e || b) (both_false (free e) (not (in_g (prior in_g kept free before e) e)) (not (in_h (prior in_g kept free before e) e)) out)
  ] where
    both_false : (a b c : Bool) → (T a → ⊥) → (a && b) ≡ (a && c)
    both_false true b c n = absurd (n tt)
    both_false false b c n = refl

-- the link of one table, or else of the other
abbrev either_link : {K : Type 0} → Option (Link K) → Option (Link K) → Option (Link K)
either_link (Some l) other = Some l
either_link None other = other

module _ {K : Type 0} (o : Operations K) (laws : Laws o) (e : ℕ) (t t' : Table K) (lawful : Lawful o t) (lawful' : Lawful o t') (differ : DifferAt e t t') where
  abbrev at : ℕ → Option (Link K)
  at k = slice_get t.links k

  abbrev at' : ℕ → Option (Link K)
  at' k = slice_get t'.links k

  -- a graph that has the links of both
  abbrev h : Graph
  h = record { first = λ k. first_end (either_link (at k) (at' k)); second = λ k. second_end (either_link (at k) (at' k)) }

  abbrev N : ℕ
  N = link_count t + link_count t'

  finite_h : Finite h N
  finite_h k l =
      let p : at k ≡ None = slice_get_past t.links k (omega arith) in
      let q : at' k ≡ None = slice_get_past t'.links k (omega arith) in
      ap (λ x. first_end (either_link x (at' k))) p ∙ ap first_end q ∙ sym (ap (λ x. second_end (either_link x (at' k))) p ∙ ap second_end q)

  abbrev in_span : (ℕ → Bool) → ℕ → Bool
  in_span S k = share_label h N S (h.first k) (h.second k)

  -- it agrees with each
  left_ends : (l m : Option (Link K)) → T (is_kept (role_in l) || is_free (role_in l)) → (first_end l ≡ first_end (either_link l m)) × (second_end l ≡ second_end (either_link l m))
  left_ends None m u = absurd u
  left_ends (Some l) m u = (refl, refl)

  both_links : (k : ℕ) (l m : Link K) → at k ≡ Some l → at' k ≡ Some m → (m.first ≡ l.first) × (m.second ≡ l.second)
  both_links k l m p q = elim (same_or k e) [
    | inl w ↦ let s = differ.same_ends l m (ap at (sym w) ∙ p) (ap at' (sym w) ∙ q) in (sym s.0, sym s.1)
    | inr other ↦ let s : Some m ≡ Some l = sym q ∙ sym (differ.others k other) ∙ p in (ap (λ x. first_end x) s, ap (λ x. second_end x) s)
  ]

  right_ends : (k : ℕ) (l m : Option (Link K)) → at k ≡ l → at' k ≡ m → T (is_kept (role_in m) || is_free (role_in m)) → (first_end m ≡ first_end (either_link l m)) × (second_end m ≡ second_end (either_link l m))
  right_ends k l None p q u = absurd u
  right_ends k None (Some m) p q u = (refl, refl)
  right_ends k (Some l) (Some m) p q u = both_links k l m p q

  same_left : (k : ℕ) → shown o t k ≡ greedy in_span (kept t) (free t) (before o t) k
  same_left = same_greedy (ends t) h (link_count t) N (graphs.finite o laws t lawful) finite_h (kept t) (free t) (before o t) (λ k u. (left_ends (at k) (at' k) u).0) (λ k u. (left_ends (at k) (at' k) u).1)

  same_right : (k : ℕ) → shown o t' k ≡ greedy in_span (kept t') (free t') (before o t') k
  same_right = same_greedy (ends t') h (link_count t') N (graphs.finite o laws t' lawful') finite_h (kept t') (free t') (before o t') (λ k u. (right_ends k (at k) (at' k) refl refl u).0) (λ k u. (right_ends k (at k) (at' k) refl refl u).1)

  closed : Closure in_span
  closed = graph_closure h N finite_h

-- ranks among more numbers
more_ranked : (n m : ℕ) (kept free : ℕ → Bool) (before : ℕ → ℕ → Bool) → n ≤ m → Ranked n kept free before → Ranked m kept free before
more_ranked n m kept free before l r = record {
  kept_below = λ k t. (let b = r.kept_below k t in omega arith);
  free_below = λ k t. (let b = r.free_below k t in omega arith);
  apart = r.apart;
  strict = r.strict;
  transitive = r.transitive;
  either = r.either;
}

-- one of the two states of link e is no worse
module _ {K : Type 0} (o : Operations K) (laws : Laws o) (e : ℕ) (t t' : Table K) (lawful : Lawful o t) (lawful' : Lawful o t') (others : (k : ℕ) → (k ≡ e → ⊥) → slice_get t.links k ≡ slice_get t'.links k) where
  abbrev Better : Type 0
  Better = NoWorse e (kept t) (free t) (before o t) (kept t') (free t') (before o t')

  order_same : (a b : ℕ) → (a ≡ e → ⊥) → (b ≡ e → ⊥) → before o t a b ≡ before o t' a b
  order_same a b na nb =
      ap (λ x. not (o.not_above (price_of o t b) x) || ((o.not_above x (price_of o t b) && o.not_above (price_of o t b) x) && ltb a b)) (ap (price_in o) (others a na))
      ∙ ap (λ x. not (o.not_above x (price_of o t' a)) || ((o.not_above (price_of o t' a) x && o.not_above x (price_of o t' a)) && ltb a b)) (ap (price_in o) (others b nb))

  better_by : (T (kept t e) → T (kept t' e)) → (T (free t e) → T (kept t' e || free t' e)) → ((k : ℕ) → (k ≡ e → ⊥) → T (free t k) → T (kept t e || (free t e && before o t e k)) → T (kept t' e || (free t' e && before o t' e k))) → Better
  better_by stays may comes = record {
    same_kept = λ k n. ap (λ l. is_kept (role_in l)) (others k n);
    same_free = λ k n. ap (λ l. is_free (role_in l)) (others k n);
    same_order = order_same;
    stays_kept = stays;
    stays_usable = may;
    comes_before = comes;
  }

  -- not used before
  from_nothing : (T (kept t e) → ⊥) → (T (free t e) → ⊥) → Better
  from_nothing k f = better_by (λ u. absurd (k u)) (λ u. absurd (f u)) (λ j n fj u. elim (or_cases (kept t e) (free t e && before o t e j) u) [ inl v ↦ absurd (k v) | inr v ↦ absurd (f (and_left (free t e) (before o t e j) v)) ])

  -- kept after
  to_kept : T (kept t' e) → Better
  to_kept k = better_by (λ u. k) (λ u. or_left (kept t' e) (free t' e) k) (λ j n fj u. or_left (kept t' e) (free t' e && before o t' e j) k)

  -- free both times, and now no dearer
  module _ (fe : T (free t e)) (fe' : T (free t' e)) (nk : T (kept t e) → ⊥) (cheap : T (o.not_above (price_of o t' e) (price_of o t e))) where
    abbrev p : K
    p = price_of o t e

    abbrev p' : K
    p' = price_of o t' e

    still_before : (k : ℕ) → (k ≡ e → ⊥) → T (before o t e k) → T (before o t' e k)
    still_before k n u =
        let q = price_of o t k in
        let q' = price_of o t' k in
        let same-price : q ≡ q' = ap (price_in o) (others k n) in
        let ce = compared o laws t lawful e in
        let ce' = compared o laws t' lawful' e in
        let ck = compared o laws t lawful k in
        because (o.not_above p' q') (o.not_above q' p') e k (subst (λ x. Why (o.not_above p' x) (o.not_above x p') e k) same-price (elim (why (o.not_above p q) (o.not_above q p) e k u) [
          | lower f ↦ lower (λ v. f (laws.transitive q p' p ck ce' ce v cheap))
          | tied up down less ↦ elim (true_or (o.not_above q p')) [
            | inl v ↦ tied (laws.transitive p' p q ce' ce ck cheap up) v less
            | inr v ↦ lower v
          ]
        ]))

    cheaper : Better
    cheaper = better_by (λ u. absurd (nk u)) (λ u. or_right (kept t' e) (free t' e) fe') (λ j n fj u. elim (or_cases (kept t e) (free t e && before o t e j) u) [
      | inl v ↦ absurd (nk v)
      | inr v ↦ or_right (kept t' e) (free t' e && before o t' e j) (and_both (free t' e) (before o t' e j) fe' (still_before j n (and_right (free t e) (before o t e j) v)))
    ])

module _ {K : Type 0} (o : Operations K) (laws : Laws o) (e : ℕ) (t t' : Table K) (lawful : Lawful o t) (lawful' : Lawful o t') (differ : DifferAt e t t') where
  abbrev others_back : (k : ℕ) → (k ≡ e → ⊥) → slice_get t'.links k ≡ slice_get t.links k
  others_back k n = sym (differ.others k n)

  one_better : Better o laws e t t' lawful lawful' differ.others ⊎ Better o laws e t' t lawful' lawful others_back
  one_better = elim (true_or (kept t' e)) [
    | inl k' ↦ inl (to_kept o laws e t t' lawful lawful' differ.others k')
    | inr nk' ↦ elim (true_or (kept t e)) [
      | inl k ↦ inr (to_kept o laws e t' t lawful' lawful others_back k)
      | inr nk ↦ elim (true_or (free t e)) [
        | inr nf ↦ inl (from_nothing o laws e t t' lawful lawful' differ.others nk nf)
        | inl fe ↦ elim (true_or (free t' e)) [
          | inr nf' ↦ inr (from_nothing o laws e t' t lawful' lawful others_back nk' nf')
          | inl fe' ↦ elim (laws.either (price_of o t' e) (price_of o t e) (compared o laws t' lawful' e) (compared o laws t lawful e)) [
            | inl c ↦ inl (cheaper o laws e t t' lawful lawful' differ.others fe fe' nk c)
            | inr c ↦ inr (cheaper o laws e t' t lawful' lawful others_back fe' fe nk' c)
          ]
        ]
      ]
    ]
  ]

  abbrev spans : (ℕ → Bool) → ℕ → Bool
  spans = in_span o laws e t t' lawful lawful' differ

  abbrev M : ℕ
  M = N o laws e t t' lawful lawful' differ

  ranked_left : Ranked M (kept t) (free t) (before o t)
  ranked_left = more_ranked (link_count t) M (kept t) (free t) (before o t) (omega arith) (graphs.ranked o laws t lawful)

  ranked_right : Ranked M (kept t') (free t') (before o t')
  ranked_right = more_ranked (link_count t') M (kept t') (free t') (before o t') (omega arith) (graphs.ranked o laws t' lawful')

  abbrev A : ℕ → Bool
  A = greedy spans (kept t) (free t) (before o t)

  abbrev B : ℕ → Bool
  B = greedy spans (kept t') (free t') (before o t')

  abbrev c : Closure spans
  c = closed o laws e t t' lawful lawful' differ

  abbrev AmongThem : (ℕ → Bool) → (ℕ → Bool) → Type 0
  AmongThem X Y = (a b : ℕ) → T (X a) → (T (Y a) → ⊥) → T (Y b) → (T (X b) → ⊥) → (a ≡ e) ⊎ (b ≡ e)

  trees_exchange : AtMostOneLeaves A B × AtMostOneLeaves B A × AmongThem A B
  trees_exchange = elim one_better [
    | inl b ↦ (
      exchange.one_leaves_lem spans c M e (kept t) (free t) (before o t) (kept t') (free t') (before o t') ranked_left ranked_right b,
      exchange.one_enters_lem spans c M e (kept t) (free t) (before o t) (kept t') (free t') (before o t') ranked_left ranked_right b,
      (λ x y tx nx ty ny. inr (exchange.enters spans c M e (kept t) (free t) (before o t) (kept t') (free t') (before o t') ranked_left ranked_right b y ty ny)),
    )
    | inr b ↦ (
      exchange.one_enters_lem spans c M e (kept t') (free t') (before o t') (kept t) (free t) (before o t) ranked_right ranked_left b,
      exchange.one_leaves_lem spans c M e (kept t') (free t') (before o t') (kept t) (free t) (before o t) ranked_right ranked_left b,
      (λ x y tx nx ty ny. inl (exchange.enters spans c M e (kept t') (free t') (before o t') (kept t) (free t) (before o t) ranked_right ranked_left b x tx nx)),
    )
  ]

  -- both trees have equally many links
  same_size : (X Y : ℕ → Bool) → LawfulTreeOf t X → LawfulTreeOf t' Y → count X M ≡ count Y M
  same_size X Y tx ty = equal (count X M) (count Y M) (tree_size o laws t lawful X tx M (omega arith) ∙ differ.same_points ∙ sym (tree_size o laws t' lawful' Y ty M (omega arith))) where
    equal : (a b : ℕ) → suc a ≡ suc b → a ≡ b
    equal a b q = omega arith

  pub one_exchange : (X Y : ℕ → Bool) → TreeShown o t X → TreeShown o t' Y → Exchanges e X Y
  one_exchange X Y sx sy =
      let p : (k : ℕ) → X k ≡ A k = λ k. sole o laws t lawful X sx k ∙ same_left o laws e t t' lawful lawful' differ k in
      let q : (k : ℕ) → Y k ≡ B k = λ k. sole o laws t' lawful' Y sy k ∙ same_right o laws e t t' lawful lawful' differ k in
      let xa : (k : ℕ) → T (X k) → T (A k) = λ k u. subst T (p k) u in
      let ax : (k : ℕ) → (T (X k) → ⊥) → T (A k) → ⊥ = λ k n u. n (subst T (sym (p k)) u) in
      let yb : (k : ℕ) → T (Y k) → T (B k) = λ k u. subst T (q k) u in
      let by : (k : ℕ) → (T (Y k) → ⊥) → T (B k) → ⊥ = λ k n u. n (subst T (sym (q k)) u) in
      let size = same_size X Y sx.lawful sy.lawful in
      record {
        one_leaves = λ a b ta na tb nb. trees_exchange.0 a b (xa a ta) (by a na) (xa b tb) (by b nb);
        one_enters = λ a b ta na tb nb. trees_exchange.1 a b (yb a ta) (ax a na) (yb b tb) (ax b nb);
        among_them = λ a b ta na tb nb. trees_exchange.2 a b (xa a ta) (by a na) (yb b tb) (ax b nb);
        left_then_entered = λ a ta na. other_way X Y M size a (more (link_count t) (link_count t') a (tree_below_lem o laws t lawful X sx.lawful a ta)) ta na;
        entered_then_left = λ b tb nb. other_way Y X M (sym size) b (more' (link_count t) (link_count t') b (tree_below_lem o laws t' lawful' Y sy.lawful b tb)) tb nb;
      } where
        more : (n m k : ℕ) → k < n → k < n + m
        more n m k l = omega arith

        more' : (n m k : ℕ) → k < m → k < n + m
        more' n m k l = omega arith
