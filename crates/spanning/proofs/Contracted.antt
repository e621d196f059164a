-- Over the parts joined by kept links, trees, the greedy tree and costs correspond to those below.
use Rattle.std.proofs.Common.{◌≡◌, ℕ, zero, suc, ◌<◌, ◌≤◌, Bool, true, false, cond, not, ◌&&◌, ◌||◌, T, ltb, ◌⊎◌, sym, refl, ap, ◌∙◌, subst, inl, inr, arith, ltb→lt, lt→ltb}
use Rattle.price.specs.Kind.{Operations, Laws}
use Rattle.spanning.specs.Closure.{Closure}
use Rattle.spanning.specs.Contraction.{contracted, between, nothing_kept, and_kept, less_kept}
use Rattle.spanning.specs.Costs.{cost, Priced}
use Rattle.spanning.specs.Sets.{with_link, without_link}
use Rattle.spanning.specs.Trees.{Ranked, prior, greedy, Tree}
use Rattle.spanning.proofs.Greedy.{more, add_one, prior_kept, prior_free, prior_cases, greedy_cases, greedy_in}
use Rattle.spanning.proofs.Subsets.{same_test, or_left, or_right, or_cases, and_both, and_left, and_right, not_from, not_to, true_or, same_or, with_old, with_new, with_cases, without_in, without_old, without_apart, Within}
use Rattle.spanning.proofs.Totals.{cost_same, cost_without}

module _ (in_span : (ℕ → Bool) → ℕ → Bool) (c : Closure in_span) (n : ℕ) (kept free : ℕ → Bool) (before : ℕ → ℕ → Bool) (ranked : Ranked n kept free before) (alone : (e : ℕ) → T (kept e) → T (in_span (without_link kept e) e) → ⊥) where
  abbrev inᶜ : (ℕ → Bool) → ℕ → Bool
  inᶜ = contracted in_span kept free

  abbrev freeᶜ : ℕ → Bool
  freeᶜ = between in_span kept free

  abbrev plus : (ℕ → Bool) → ℕ → Bool
  plus = and_kept kept

  plus_kept : (S : ℕ → Bool) (k : ℕ) → T (kept k) → T (plus S k)
  plus_kept S k t = or_left (kept k) (S k) t

  plus_own : (S : ℕ → Bool) (k : ℕ) → T (S k) → T (plus S k)
  plus_own S k t = or_right (kept k) (S k) t

  pub closed : Closure inᶜ
  closed = record {
    holds = λ S e t. c.holds (plus S) e (plus_own S e t);
    grows = λ S R h f t. c.grows (plus S) (plus R) (λ e u. elim (or_cases (kept e) (S e) u) [
      | inl s ↦ c.holds (plus R) e (plus_kept R e s)
      | inr s ↦ h e s
    ]) f t;
    exchange = λ S e f t. elim (c.exchange (plus S) e f (more in_span c (plus (with_link S e)) (with_link (plus S) e) (λ k u. elim (or_cases (kept k) (with_link S e k) u) [
      | inl s ↦ with_old (plus S) e k (plus_kept S k s)
      | inr s ↦ elim (with_cases S e k s) [
        | inl w ↦ with_old (plus S) e k (plus_own S k w)
        | inr q ↦ subst (λ j. T (with_link (plus S) e j)) (sym q) (with_new (plus S) e)
      ]
    ]) f t)) [
      | inl u ↦ inl u
      | inr u ↦ inr (more in_span c (with_link (plus S) f) (plus (with_link S f)) (λ k w. elim (with_cases (plus S) f k w) [
        | inl s ↦ elim (or_cases (kept k) (S k) s) [
          | inl v ↦ plus_kept (with_link S f) k v
          | inr v ↦ plus_own (with_link S f) k (with_old S f k v)
        ]
        | inr q ↦ plus_own (with_link S f) k (subst (λ j. T (with_link S f j)) (sym q) (with_new S f))
      ]) e u)
    ];
  }

  between_free : (k : ℕ) → T (freeᶜ k) → T (free k)
  between_free k t = and_left (free k) (not (in_span kept k)) t

  between_new : (k : ℕ) → T (freeᶜ k) → T (in_span kept k) → ⊥
  between_new k t = not_to (in_span kept k) (and_right (free k) (not (in_span kept k)) t)

  pub rankedᶜ : Ranked n nothing_kept freeᶜ before
  rankedᶜ = record {
    kept_below = λ k t. absurd t;
    free_below = λ k t. ranked.free_below k (between_free k t);
    apart = λ k t u. t;
    strict = λ a t. ranked.strict a (between_free a t);
    transitive = λ a b d t u v. ranked.transitive a b d (between_free a t) (between_free b u) (between_free d v);
    either = λ a b t u. ranked.either a b (between_free a t) (between_free b u);
  }

  -- from a tree above to one below
  module _ (X : ℕ → Bool) (tree : Tree inᶜ nothing_kept freeᶜ before X) where
    own_between : (k : ℕ) → T (X k) → T (freeᶜ k)
    own_between k t = tree.usable k t

    abbrev part : ℕ → ℕ → Bool
    part m k = kept k || (X k && ltb k m)

    part_cases : (m k : ℕ) → T (part m k) → T (kept k) ⊎ (T (X k) × (k < m))
    part_cases m k t = elim (or_cases (kept k) (X k && ltb k m) t) [
      | inl s ↦ inl s
      | inr u ↦ inr (and_left (X k) (ltb k m) u, ltb→lt k m (and_right (X k) (ltb k m) u))
    ]

    part_kept : (m k : ℕ) → T (kept k) → T (part m k)
    part_kept m k t = or_left (kept k) (X k && ltb k m) t

    part_own : (m k : ℕ) → T (X k) → k < m → T (part m k)
    part_own m k t l = or_right (kept k) (X k && ltb k m) (and_both (X k) (ltb k m) t (lt→ltb k m l))

    independent_part : (m : ℕ) (e : ℕ) → T (part m e) → T (in_span (without_link (part m) e) e) → ⊥
    independent_part zero e t s =
        let inside : Within (part zero) kept = λ k u. elim (part_cases zero k u) [ inl w ↦ w | inr v ↦ absurd (let l = v.1 in omega arith) ] in
        alone e (inside e t) (more in_span c (without_link (part zero) e) (without_link kept e) (λ k u. without_in kept e k (inside k (without_old (part zero) e k u)) (without_apart (part zero) e k u)) e s)
    independent_part (suc m) e t s = elim (true_or (X m)) [
      | inl own ↦
          let within : Within (part (suc m)) (with_link (part m) m) = λ k u. elim (part_cases (suc m) k u) [
            | inl w ↦ with_old (part m) m k (part_kept m k w)
            | inr v ↦ elim (same_or k m) [
              | inl q ↦ subst (λ j. T (with_link (part m) m j)) (sym q) (with_new (part m) m)
              | inr apart ↦ with_old (part m) m k (part_own m k v.0 (let l = v.1 in omega arith))
            ]
          ] in
          let new : T (in_span (part m) m) → ⊥ = λ u. tree.independent m own (more in_span c (part m) (plus (without_link X m)) (λ k w. elim (part_cases m k w) [
            | inl v ↦ plus_kept (without_link X m) k v
            | inr v ↦ plus_own (without_link X m) k (without_in X m k v.0 (λ q. let l = v.1 in omega arith))
          ]) m u) in
          add_one in_span c (part m) (part (suc m)) m within (independent_part m) new e t s
      | inr out ↦
          let inside : Within (part (suc m)) (part m) = λ k u. elim (part_cases (suc m) k u) [
            | inl w ↦ part_kept m k w
            | inr v ↦ elim (same_or k m) [
              | inl q ↦ absurd (out (subst (λ j. T (X j)) q v.0))
              | inr apart ↦ part_own m k v.0 (let l = v.1 in omega arith)
            ]
          ] in
          independent_part m e (inside e t) (more in_span c (without_link (part (suc m)) e) (without_link (part m) e) (λ k u. without_in (part m) e k (inside k (without_old (part (suc m)) e k u)) (without_apart (part (suc m)) e k u)) e s)
    ]

    pub tree_below_lem : Tree in_span kept free before (plus X)
    tree_below_lem = record {
      independent = λ e t s.
          let inside : Within (plus X) (part n) = λ k u. elim (or_cases (kept k) (X k) u) [
            | inl w ↦ part_kept n k w
            | inr w ↦ part_own n k w (ranked.free_below k (between_free k (own_between k w)))
          ] in
          independent_part n e (inside e t) (more in_span c (without_link (plus X) e) (without_link (part n) e) (λ k u. without_in (part n) e k (inside k (without_old (plus X) e k u)) (without_apart (plus X) e k u)) e s);
      holds_kept = plus_kept X;
      usable = λ k t. elim (or_cases (kept k) (X k) t) [
        | inl s ↦ or_left (kept k) (free k) s
        | inr s ↦ or_right (kept k) (free k) (between_free k (own_between k s))
      ];
      spans = λ k t. elim (or_cases (kept k) (free k) t) [
        | inl s ↦ c.holds (plus X) k (plus_kept X k s)
        | inr f ↦ elim (true_or (in_span kept k)) [
          | inl s ↦ more in_span c kept (plus X) (plus_kept X) k s
          | inr new ↦ tree.spans k (and_both (free k) (not (in_span kept k)) f (not_from (in_span kept k) new))
        ]
      ];
    }

  -- from a tree below to one above
  module _ (X : ℕ → Bool) (tree : Tree in_span kept free before X) where
    abbrev rest : ℕ → Bool
    rest = less_kept kept X

    rest_own : (k : ℕ) → T (rest k) → T (X k)
    rest_own k t = and_left (X k) (not (kept k)) t

    rest_loose : (k : ℕ) → T (rest k) → T (kept k) → ⊥
    rest_loose k t = not_to (kept k) (and_right (X k) (not (kept k)) t)

    pub tree_above_lem : Tree inᶜ nothing_kept freeᶜ before rest
    tree_above_lem = record {
      independent = λ e t s. tree.independent e (rest_own e t) (more in_span c (plus (without_link rest e)) (without_link X e) (λ k u. elim (or_cases (kept k) (without_link rest e k) u) [
        | inl w ↦ without_in X e k (tree.holds_kept k w) (λ q. rest_loose e t (subst (λ j. T (kept j)) q w))
        | inr w ↦ without_in X e k (rest_own k (without_old rest e k w)) (without_apart rest e k w)
      ]) e s);
      holds_kept = λ k t. absurd t;
      usable = λ k t. elim (or_cases (kept k) (free k) (tree.usable k (rest_own k t))) [
        | inl s ↦ absurd (rest_loose k t s)
        | inr f ↦ and_both (free k) (not (in_span kept k)) f (not_from (in_span kept k) (λ s. tree.independent k (rest_own k t) (more in_span c kept (without_link X k) (λ j u. without_in X k j (tree.holds_kept j u) (λ q. rest_loose k t (subst (λ i. T (kept i)) q u))) k s)))
      ];
      spans = λ k t. more in_span c X (plus rest) (λ j u. elim (true_or (kept j)) [
        | inl s ↦ plus_kept rest j s
        | inr loose ↦ plus_own rest j (and_both (X j) (not (kept j)) u (not_from (kept j) loose))
      ]) k (tree.spans k (or_right (kept k) (free k) (between_free k t)));
    }

  abbrev G : ℕ → Bool
  G = greedy in_span kept free before

  abbrev Gᶜ : ℕ → Bool
  Gᶜ = greedy inᶜ nothing_kept freeᶜ before

  -- what ranks before h above and below spans the same, with the kept links
  prior_above : (h : ℕ) → Within (plus (prior inᶜ nothing_kept freeᶜ before h)) (prior in_span kept free before h)
  prior_above h k t = elim (or_cases (kept k) (prior inᶜ nothing_kept freeᶜ before h k) t) [
    | inl s ↦ prior_kept in_span c n kept free before ranked h k s
    | inr u ↦ prior_free in_span c n kept free before ranked h k (between_free k (and_left (freeᶜ k) (before k h) u)) (and_right (freeᶜ k) (before k h) u)
  ]

  prior_below : (h k : ℕ) → T (prior in_span kept free before h k) → T (in_span (plus (prior inᶜ nothing_kept freeᶜ before h)) k)
  prior_below h k t =
      let P = prior inᶜ nothing_kept freeᶜ before h in
      elim (prior_cases in_span c n kept free before ranked h k t) [
        | inl s ↦ c.holds (plus P) k (plus_kept P k s)
        | inr v ↦ elim (true_or (in_span kept k)) [
          | inl s ↦ more in_span c kept (plus P) (plus_kept P) k s
          | inr new ↦ c.holds (plus P) k (plus_own P k (and_both (freeᶜ k) (before k h) (and_both (free k) (not (in_span kept k)) v.0 (not_from (in_span kept k) new)) v.1))
        ]
      ]

  -- the greedy tree above is the one below without the kept links
  pub greedy_above_lem : (k : ℕ) → Gᶜ k ≡ less_kept kept G k
  greedy_above_lem k = same_test (Gᶜ k) (less_kept kept G k)
      (λ t.
      let f = and_left (freeᶜ k) (not (inᶜ (prior inᶜ nothing_kept freeᶜ before k) k)) t in
      let new = not_to (inᶜ (prior inᶜ nothing_kept freeᶜ before k) k) (and_right (freeᶜ k) (not (inᶜ (prior inᶜ nothing_kept freeᶜ before k) k)) t) in
      and_both (G k) (not (kept k)) (greedy_in in_span c n kept free before ranked k (between_free k f) (λ s. new (c.grows (prior in_span kept free before k) (plus (prior inᶜ nothing_kept freeᶜ before k)) (prior_below k) k s))) (not_from (kept k) (λ s. ranked.apart k s (between_free k f))))
      (λ t. elim (greedy_cases in_span c n kept free before ranked k (and_left (G k) (not (kept k)) t)) [
        | inl s ↦ absurd (not_to (kept k) (and_right (G k) (not (kept k)) t) s)
        | inr v ↦
            and_both (freeᶜ k) (not (inᶜ (prior inᶜ nothing_kept freeᶜ before k) k))
            (and_both (free k) (not (in_span kept k)) v.0 (not_from (in_span kept k) (λ s. v.1 (more in_span c kept (prior in_span kept free before k) (prior_kept in_span c n kept free before ranked k) k s))))
            (not_from (inᶜ (prior inᶜ nothing_kept freeᶜ before k) k) (λ s. v.1 (more in_span c (plus (prior inᶜ nothing_kept freeᶜ before k)) (prior in_span kept free before k) (prior_above k) k s)))
      ])

  -- costs: the kept prices are carried
  module _ {A : Type 0} (o : Operations A) (laws : Laws o) (carried : A) (price : ℕ → A) (priced : Priced o carried price (λ k. kept k || free k)) (X : ℕ → Bool) (inside : Within X freeᶜ) where
    abbrev C : (ℕ → Bool) → A
    C = cost o carried price n

    abbrev some : ℕ → ℕ → Bool
    some m k = kept k || (X k && ltb k m)

    some_usable : (m : ℕ) → Within (some m) (λ k. kept k || free k)
    some_usable m k t = elim (or_cases (kept k) (X k && ltb k m) t) [
      | inl s ↦ or_left (kept k) (free k) s
      | inr u ↦ or_right (kept k) (free k) (between_free k (inside k (and_left (X k) (ltb k m) u)))
    ]

    some_less : (m k : ℕ) → T (some (suc m) k) → (k ≡ m → ⊥) → T (some m k)
    some_less m k t apart = elim (or_cases (kept k) (X k && ltb k (suc m)) t) [
      | inl s ↦ or_left (kept k) (X k && ltb k m) s
      | inr u ↦ or_right (kept k) (X k && ltb k m) (and_both (X k) (ltb k m) (and_left (X k) (ltb k (suc m)) u) (lt→ltb k m (let l = ltb→lt k (suc m) (and_right (X k) (ltb k (suc m)) u) in omega arith)))
    ]

    some_more : (m k : ℕ) → T (some m k) → T (some (suc m) k)
    some_more m k t = elim (or_cases (kept k) (X k && ltb k m) t) [
      | inl s ↦ or_left (kept k) (X k && ltb k (suc m)) s
      | inr u ↦ or_right (kept k) (X k && ltb k (suc m)) (and_both (X k) (ltb k (suc m)) (and_left (X k) (ltb k m) u) (lt→ltb k (suc m) (let l = ltb→lt k m (and_right (X k) (ltb k m) u) in omega arith)))
    ]

    not_yet : (m : ℕ) → T (X m) → T (some m m) → ⊥
    not_yet m own t = elim (or_cases (kept m) (X m && ltb m m) t) [
      | inl s ↦ ranked.apart m s (between_free m (inside m own))
      | inr u ↦ (let l = ltb→lt m m (and_right (X m) (ltb m m) u) in omega arith)
    ]

    step : (m : ℕ) (b : Bool) → b ≡ X m → m < n → cost o (C kept) price m X ≡ C (some m) → cond b (o.plus (cost o (C kept) price m X) (price m)) (cost o (C kept) price m X) ≡ C (some (suc m))
    step m true e l so_far =
        let own : T (X m) = subst T e tt in
        let here : T (some (suc m) m) = or_right (kept m) (X m && ltb m (suc m)) (and_both (X m) (ltb m (suc m)) own (lt→ltb m (suc m) (omega arith))) in
        ap (λ v. o.plus v (price m)) (so_far ∙ cost_same o laws carried price (λ k. kept k || free k) priced n (some m) (without_link (some (suc m)) m) (λ k j t. without_in (some (suc m)) m k (some_more m k t) (λ q. not_yet m own (subst (λ i. T (some m i)) q t))) (λ k j t. some_less m k (without_old (some (suc m)) m k t) (without_apart (some (suc m)) m k t)))
        ∙ sym (cost_without o laws carried price (λ k. kept k || free k) priced n (some (suc m)) m (some_usable (suc m)) l here)
    step m false e l so_far =
        so_far ∙ cost_same o laws carried price (λ k. kept k || free k) priced n (some m) (some (suc m)) (λ k j t. some_more m k t) (λ k j t. elim (same_or k m) [
          | inl q ↦ elim (or_cases (kept k) (X k && ltb k (suc m)) t) [
            | inl s ↦ or_left (kept k) (X k && ltb k m) s
            | inr u ↦ absurd (subst T (sym e) (subst (λ i. T (X i)) q (and_left (X k) (ltb k (suc m)) u)))
          ]
          | inr apart ↦ some_less m k t apart
        ])

    upto : (m : ℕ) → m ≤ n → cost o (C kept) price m X ≡ C (some m)
    upto zero l = cost_same o laws carried price (λ k. kept k || free k) priced n kept (some zero) (λ k j t. or_left (kept k) (X k && ltb k zero) t) (λ k j t. elim (or_cases (kept k) (X k && ltb k zero) t) [
      | inl s ↦ s
      | inr u ↦ absurd (let m = ltb→lt k zero (and_right (X k) (ltb k zero) u) in omega arith)
    ])
    upto (suc m) l = step m (X m) refl (omega arith) (upto m (omega arith))

    pub cost_above : cost o (C kept) price n X ≡ C (and_kept kept X)
    cost_above = upto n (omega arith) ∙ cost_same o laws carried price (λ k. kept k || free k) priced n (some n) (and_kept kept X) (λ k l t. elim (or_cases (kept k) (X k && ltb k n) t) [
      | inl s ↦ or_left (kept k) (X k) s
      | inr u ↦ or_right (kept k) (X k) (and_left (X k) (ltb k n) u)
    ]) (λ k l t. elim (or_cases (kept k) (X k) t) [
      | inl s ↦ or_left (kept k) (X k && ltb k n) s
      | inr u ↦ or_right (kept k) (X k && ltb k n) (and_both (X k) (ltb k n) u (lt→ltb k n l))
    ])
