-- Every tree costs at least as much as the greedy tree.
use Rattle.std.proofs.Common.{◌≡◌, ℕ, zero, suc, ◌<◌, ◌≤◌, Bool, not, ◌&&◌, ◌||◌, T, sym, ap, ◌∙◌, subst, inl, inr, arith}
use Rattle.price.specs.Kind.{Operations, Compared, Laws}
use Rattle.price.specs.Kind.TotalOf.{one}
use Rattle.price.specs.Kind.Compared.{total}
use Rattle.spanning.specs.Closure.{Closure}
use Rattle.spanning.specs.Costs.{cost, Priced}
use Rattle.spanning.specs.Sets.{with_link, without_link}
use Rattle.spanning.specs.Trees.{Ranked, prior, greedy, Tree}
use Rattle.spanning.proofs.Greedy.{more, add_one, kept_in, prior_cases, greedy_left_out, greedy_independent, greedy_cases}
use Rattle.spanning.proofs.Search.{find}
use Rattle.spanning.proofs.Subsets.{or_left, or_right, or_cases, and_both, and_left, and_right, not_from, not_to, true_or, same_or, with_old, with_new, with_cases, without_in, without_old, without_apart, Within}
use Rattle.spanning.proofs.Totals.{keeps_total, cost_total, cost_same, cost_without}

module _ (in_span : (ℕ → Bool) → ℕ → Bool) (c : Closure in_span) (n : ℕ) (kept free : ℕ → Bool) (before : ℕ → ℕ → Bool) (ranked : Ranked n kept free before) where
  abbrev usable : ℕ → Bool
  usable k = kept k || free k

  abbrev G : ℕ → Bool
  G = greedy in_span kept free before

  abbrev Tr : (ℕ → Bool) → Type 0
  Tr = Tree in_span kept free before

  below : (k : ℕ) → T (usable k) → k < n
  below k t = elim (or_cases (kept k) (free k) t) [ inl s ↦ ranked.kept_below k s | inr f ↦ ranked.free_below k f ]

  -- one link of a tree for another that its rest does not span
  module _ (X : ℕ → Bool) (tree : Tr X) (x g : ℕ) (own : T (X x)) (loose : T (kept x) → ⊥) (fg : T (free g)) (new : T (in_span (without_link X x) g) → ⊥) where
    abbrev swapped : ℕ → Bool
    swapped = with_link (without_link X x) g

    within_swapped : Within (without_link X x) swapped
    within_swapped = with_old (without_link X x) g

    spans_x : T (in_span swapped x)
    spans_x =
        let again : Within X (with_link (without_link X x) x) = λ j t. elim (same_or j x) [
          | inl q ↦ subst (λ i. T (with_link (without_link X x) x i)) (sym q) (with_new (without_link X x) x)
          | inr apart ↦ with_old (without_link X x) x j (without_in X x j t apart)
        ] in
        elim (c.exchange (without_link X x) x g (more in_span c X (with_link (without_link X x) x) again g (tree.spans g (or_right (kept g) (free g) fg)))) [
          | inl t ↦ absurd (new t)
          | inr t ↦ t
        ]

    pub swapped_tree : Tr swapped
    swapped_tree = record {
      independent = add_one in_span c (without_link X x) swapped g (λ k t. t) (λ e t s. tree.independent e (without_old X x e t) (more in_span c (without_link (without_link X x) e) (without_link X e) (λ k u. without_in X e k (without_old X x k (without_old (without_link X x) e k u)) (without_apart (without_link X x) e k u)) e s)) new;
      holds_kept = λ k t. within_swapped k (without_in X x k (tree.holds_kept k t) (λ q. loose (subst (λ j. T (kept j)) q t)));
      usable = λ k t. elim (with_cases (without_link X x) g k t) [
        | inl s ↦ tree.usable k (without_old X x k s)
        | inr q ↦ subst (λ j. T (usable j)) (sym q) (or_right (kept g) (free g) fg)
      ];
      spans = λ k t. c.grows X swapped (λ j s. elim (same_or j x) [
        | inl q ↦ subst (λ i. T (in_span swapped i)) (sym q) spans_x
        | inr apart ↦ c.holds swapped j (within_swapped j (without_in X x j s apart))
      ]) k (tree.spans k t);
    }

    not_in_rest : T (without_link X x g) → ⊥
    not_in_rest t = new (c.holds (without_link X x) g t)

    module _ {A : Type 0} (o : Operations A) (laws : Laws o) (carried : A) (price : ℕ → A) (priced : Priced o carried price usable) (cheap : T (o.not_above (price g) (price x))) where
      abbrev C : (ℕ → Bool) → A
      C = cost o carried price n

      swapped_without : C (without_link swapped g) ≡ C (without_link X x)
      swapped_without = cost_same o laws carried price usable priced n (without_link swapped g) (without_link X x)
          (λ k l t. elim (with_cases (without_link X x) g k (without_old swapped g k t)) [
            | inl s ↦ s
            | inr q ↦ absurd (without_apart swapped g k t q)
          ])
          (λ k l t. without_in swapped g k (within_swapped k t) (λ q. not_in_rest (subst (λ j. T (without_link X x j)) q t)))

      pub swapped_cheaper : T (o.not_above (C swapped) (C X))
      swapped_cheaper =
          let rest = cost_total o laws carried price usable priced n (without_link X x) (λ k t. tree.usable k (without_old X x k t)) in
          let pg = one (price g) (priced.priced g (or_right (kept g) (free g) fg)) in
          let px = one (price x) (priced.priced x (tree.usable x own)) in
          let new-cost : C swapped ≡ o.plus (C (without_link X x)) (price g) =
          cost_without o laws carried price usable priced n swapped g swapped_tree.usable (ranked.free_below g fg) (with_new (without_link X x) g)
          ∙ ap (λ v. o.plus v (price g)) swapped_without in
          let old-cost : C X ≡ o.plus (C (without_link X x)) (price x) = cost_without o laws carried price usable priced n X x tree.usable (below x (tree.usable x own)) own in
          let kept-order = keeps_total o laws rest.0 1 1 (C (without_link X x)) (price g) (price x) rest.1 pg px cheap in
          let left-side : o.plus (price g) (C (without_link X x)) ≡ C swapped = laws.swaps 1 rest.0 (price g) (C (without_link X x)) pg rest.1 ∙ sym new-cost in
          let right_side : o.plus (price x) (C (without_link X x)) ≡ C X = laws.swaps 1 rest.0 (price x) (C (without_link X x)) px rest.1 ∙ sym old-cost in
          subst (λ v. T (o.not_above v (C X))) left-side (subst (λ v. T (o.not_above (o.plus (price g) (C (without_link X x))) v)) right_side kept-order)

  -- a greedy link that can stand in for a link that is not greedy
  module _ (X : ℕ → Bool) (tree : Tr X) (x : ℕ) (own : T (X x)) (out : T (G x) → ⊥) where
    loose_x : T (kept x) → ⊥
    loose_x t = out (kept_in in_span c n kept free before ranked x t)

    free_x : T (free x)
    free_x = elim (or_cases (kept x) (free x) (tree.usable x own)) [ inl s ↦ absurd (loose_x s) | inr f ↦ f ]

    abbrev front : ℕ → Bool
    front k = G k && prior in_span kept free before x k

    pub replacement : (g : ℕ) × (T (G g)) × (T (free g)) × (T (before g x)) × (T (in_span (without_link X x) g) → ⊥)
    replacement = elim (find (λ g. front g && not (in_span (without_link X x) g)) n) [
      | inl found ↦
          let g = found.0 in
          let in-front = and_left (front g) (not (in_span (without_link X x) g)) found.2 in
          let new = not_to (in_span (without_link X x) g) (and_right (front g) (not (in_span (without_link X x) g)) found.2) in
          elim (prior_cases in_span c n kept free before ranked x g (and_right (G g) (prior in_span kept free before x g) in-front)) [
            | inl s ↦ absurd (new (c.holds (without_link X x) g (without_in X x g (tree.holds_kept g s) (λ q. loose_x (subst (λ j. T (kept j)) q s)))))
            | inr v ↦ (g, and_left (G g) (prior in_span kept free before x g) in-front, v.0, v.1, new)
          ]
      | inr none ↦ absurd (tree.independent x own (c.grows front (without_link X x) (λ k t. elim (true_or (in_span (without_link X x) k)) [
        | inl s ↦ s
        | inr new ↦ absurd (none k (elim (greedy_cases in_span c n kept free before ranked k (and_left (G k) (prior in_span kept free before x k) t)) [
          | inl w ↦ ranked.kept_below k w
          | inr v ↦ ranked.free_below k v.0
        ]) (and_both (front k) (not (in_span (without_link X x) k)) t (not_from (in_span (without_link X x) k) new)))
      ]) x (greedy_left_out in_span c n kept free before ranked x free_x out)))
    ]

  module _ {A : Type 0} (o : Operations A) (laws : Laws o) (carried : A) (price : ℕ → A) (priced : Priced o carried price usable) (cheap : (a b : ℕ) → T (free a) → T (free b) → T (before a b) → T (o.not_above (price a) (price b))) where
    abbrev costs : (ℕ → Bool) → A
    costs = cost o carried price n

    compared : (X : ℕ → Bool) → Tr X → Compared o (costs X)
    compared X tree = let t = cost_total o laws carried price usable priced n X tree.usable in total t.0 (costs X) t.1

    -- a tree no dearer than X that is greedy below k
    walk : (X : ℕ → Bool) → Tr X → (k : ℕ) → k ≤ n → (Y : ℕ → Bool) × (Tr Y) × ((j : ℕ) → j < k → T (Y j) → T (G j)) × T (o.not_above (costs Y) (costs X))
    walk X tree zero l = (X, tree, (λ j m t. absurd (omega arith)), elim (laws.either (costs X) (costs X) (compared X tree) (compared X tree)) [ inl t ↦ t | inr t ↦ t ])
    walk X tree (suc k) l =
        let w = walk X tree k (omega arith) in
        let Y = w.0 in
        let tr = w.1 in
        let stay : ((T (Y k) → T (G k))) → (j : ℕ) → j < suc k → T (Y j) → T (G j) = λ at-k j m t. elim (same_or j k) [
          | inl q ↦ subst (λ i. T (G i)) (sym q) (at-k (subst (λ i. T (Y i)) q t))
          | inr apart ↦ w.2 j (omega arith) t
        ] in
        elim (true_or (Y k)) [
          | inr out ↦ (Y, tr, stay (λ t. absurd (out t)), w.3)
          | inl own ↦ elim (true_or (G k)) [
            | inl t ↦ (Y, tr, stay (λ s. t), w.3)
            | inr out ↦
                let r = replacement Y tr k own out in
                let g = r.0 in
                let loose = loose_x Y tr k own out in
                let fk = free_x Y tr k own out in
                let Z = swapped Y tr k g own loose r.2 r.4 in
                let tz = swapped_tree Y tr k g own loose r.2 r.4 in (
                  Z,
                  tz,
                  (λ j m t. elim (with_cases (without_link Y k) g j t) [
                    | inl s ↦ w.2 j (let apart = without_apart Y k j s in omega arith) (without_old Y k j s)
                    | inr q ↦ subst (λ i. T (G i)) (sym q) r.1
                  ]),
                  laws.transitive (costs Z) (costs Y) (costs X) (compared Z tz) (compared Y tr) (compared X tree)
                      (swapped_cheaper Y tr k g own loose r.2 r.4 o laws carried price priced (cheap g k r.2 fk r.3)) w.3,
                )
          ]
        ]

    pub least : ((e : ℕ) → T (kept e) → T (in_span (without_link kept e) e) → ⊥) → (X : ℕ → Bool) → Tr X → T (o.not_above (costs G) (costs X))
    least alone X tree =
        let w = walk X tree n (omega arith) in
        let Y = w.0 in
        let tr = w.1 in
        let in-greedy : Within Y G = λ k t. w.2 k (below k (tr.usable k t)) t in
        let greedy-in-it : Within G Y = λ k t. elim (true_or (Y k)) [
          | inl s ↦ s
          | inr out ↦ absurd (greedy_independent in_span c n kept free before ranked alone k t (more in_span c Y (without_link G k) (λ j s. without_in G k j (in-greedy j s) (λ q. out (subst (λ i. T (Y i)) q s))) k (tr.spans k (elim (greedy_cases in_span c n kept free before ranked k t) [
            | inl v ↦ or_left (kept k) (free k) v
            | inr v ↦ or_right (kept k) (free k) v.0
          ]))))
        ] in
        subst (λ v. T (o.not_above v (costs X))) (cost_same o laws carried price usable priced n Y G (λ k l. in-greedy k) (λ k l. greedy-in-it k)) w.3
