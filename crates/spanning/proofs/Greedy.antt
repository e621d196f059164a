-- The greedy tree: it is a tree, it is shown, and no other is.
use Rattle.std.proofs.Common.{◌≡◌, ℕ, zero, suc, ◌<◌, ◌≤◌, Bool, not, ◌&&◌, ◌||◌, T, eqb, ltb, ◌⊎◌, sym, ap, ◌∙◌, subst, inl, inr, arith, eqb→eq, ltb→lt, lt→ltb}
use native.Mathlib.Decide.{dec_lt}
use lib.Dec.{eqb_refl}
use Rattle.spanning.specs.Closure.{Closure}
use Rattle.spanning.specs.Sets.{with_link, without_link}
use Rattle.spanning.specs.Trees.{Ranked, prior, greedy, Tree, Shown}
use Rattle.spanning.specs.Sets.{count}
use Rattle.spanning.proofs.Search.{find, count_less, count_bound}
use Rattle.spanning.proofs.Subsets.{or_left, or_right, or_cases, and_both, and_left, and_right, not_from, not_to, true_or, same_or, with_old, with_new, with_cases, without_in, without_old, without_apart, Within}

module _ (in_span : (ℕ → Bool) → ℕ → Bool) (c : Closure in_span) where
  -- what a larger set spans
  pub more : (S R : ℕ → Bool) → Within S R → (f : ℕ) → T (in_span S f) → T (in_span R f)
  more S R h f t = c.grows S R (λ e s. c.holds R e (h e s)) f t

  -- a link that is not spanned can be added to an independent set
  pub add_one : (X Y : ℕ → Bool) (h : ℕ) → Within Y (with_link X h) → ((e : ℕ) → T (X e) → T (in_span (without_link X e) e) → ⊥) → (T (in_span X h) → ⊥) → (e : ℕ) → T (Y e) → T (in_span (without_link Y e) e) → ⊥
  add_one X Y h within alone new e t s =
      elim (same_or e h) [
        | inl q ↦
            let inside : Within (without_link Y e) X = λ k u. elim (with_cases X h k (within k (without_old Y e k u))) [
              | inl x ↦ x
              | inr r ↦ absurd (without_apart Y e k u (r ∙ sym q))
            ] in
            new (subst (λ j. T (in_span X j)) q (more (without_link Y e) X inside e s))
        | inr apart ↦
            let own : T (X e) = elim (with_cases X h e (within e t)) [ inl x ↦ x | inr r ↦ absurd (apart r) ] in
            let inside : Within (without_link Y e) (with_link (without_link X e) h) = λ k u. elim (with_cases X h k (within k (without_old Y e k u))) [
              | inl x ↦ with_old (without_link X e) h k (without_in X e k x (without_apart Y e k u))
              | inr r ↦ subst (λ j. T (with_link (without_link X e) h j)) (sym r) (with_new (without_link X e) h)
            ] in
            elim (c.exchange (without_link X e) h e (more (without_link Y e) (with_link (without_link X e) h) inside e s)) [
              | inl r ↦ alone e own r
              | inr r ↦
                  let back : Within (with_link (without_link X e) e) X = λ k u. elim (with_cases (without_link X e) e k u) [
                    | inl x ↦ without_old X e k x
                    | inr w ↦ subst (λ j. T (X j)) (sym w) own
                  ] in
                  new (more (with_link (without_link X e) e) X back h r)
            ]
      ]

  module _ (n : ℕ) (kept free : ℕ → Bool) (before : ℕ → ℕ → Bool) (ranked : Ranked n kept free before) where
    abbrev Alone : (ℕ → Bool) → Type 0
    Alone X = (e : ℕ) → T (X e) → T (in_span (without_link X e) e) → ⊥

    abbrev G : ℕ → Bool
    G = greedy in_span kept free before

    abbrev B : ℕ → ℕ → Bool
    B = prior in_span kept free before

    -- how many free links rank before h
    abbrev place : ℕ → ℕ
    place h = count (λ k. free k && before k h) n

    place_less : (a b : ℕ) → T (free a) → T (free b) → T (before a b) → place a < place b
    place_less a b fa fb t =
        count_less (λ k. free k && before k a) (λ k. free k && before k b) n a
        (λ k l u. let fk = and_left (free k) (before k a) u in and_both (free k) (before k b) fk (ranked.transitive k a b fk fa fb (and_right (free k) (before k a) u) t))
        (ranked.free_below a fa)
        (and_both (free a) (before a b) fa t)
        (λ u. ranked.strict a fa (and_right (free a) (before a a) u))

    -- two free links at one place are one
    place_same : (a b : ℕ) → T (free a) → T (free b) → place a ≡ place b → a ≡ b
    place_same a b fa fb e =
        elim (ranked.either a b fa fb) [
          | inl q ↦ q
          | inr r ↦ elim r [
            | inl t ↦ absurd (let l = place_less a b fa fb t in omega arith)
            | inr t ↦ absurd (let l = place_less b a fb fa t in omega arith)
          ]
        ]

    pub kept_in : (k : ℕ) → T (kept k) → T (G k)
    kept_in k t = or_left (kept k) (free k && not (in_span (B k) k)) t

    pub prior_kept : (h k : ℕ) → T (kept k) → T (B h k)
    prior_kept h k t = or_left (kept k) (free k && before k h) t

    pub prior_free : (h k : ℕ) → T (free k) → T (before k h) → T (B h k)
    prior_free h k f t = or_right (kept k) (free k && before k h) (and_both (free k) (before k h) f t)

    pub prior_cases : (h k : ℕ) → T (B h k) → T (kept k) ⊎ (T (free k) × T (before k h))
    prior_cases h k t = elim (or_cases (kept k) (free k && before k h) t) [
      | inl s ↦ inl s
      | inr u ↦ inr (and_left (free k) (before k h) u, and_right (free k) (before k h) u)
    ]

    -- what ranks before what ranks before h
    pub prior_prior : (h k : ℕ) → T (free h) → T (free k) → T (before k h) → Within (B k) (B h)
    prior_prior h k fh fk t j u = elim (prior_cases k j u) [
      | inl s ↦ prior_kept h j s
      | inr v ↦ prior_free h j v.0 (ranked.transitive j k h v.0 fk fh v.1 t)
    ]

    pub greedy_cases : (k : ℕ) → T (G k) → T (kept k) ⊎ (T (free k) × (T (in_span (B k) k) → ⊥))
    greedy_cases k t = elim (or_cases (kept k) (free k && not (in_span (B k) k)) t) [
      | inl s ↦ inl s
      | inr u ↦ inr (and_left (free k) (not (in_span (B k) k)) u, not_to (in_span (B k) k) (and_right (free k) (not (in_span (B k) k)) u))
    ]

    pub greedy_in : (k : ℕ) → T (free k) → (T (in_span (B k) k) → ⊥) → T (G k)
    greedy_in k f new = or_right (kept k) (free k && not (in_span (B k) k)) (and_both (free k) (not (in_span (B k) k)) f (not_from (in_span (B k) k) new))

    -- the greedy links among the kept ones and those before h
    abbrev front : ℕ → ℕ → Bool
    front h k = G k && B h k

    front_in : (h k : ℕ) → T (G k) → T (B h k) → T (front h k)
    front_in h k t u = and_both (G k) (B h k) t u

    -- what ranks before h is spanned by the greedy links among it
    spans_prior : (m h : ℕ) → place h < m → T (free h) → (k : ℕ) → T (B h k) → T (in_span (front h) k)
    spans_prior zero h l fh k t = absurd (omega arith)
    spans_prior (suc m) h l fh k t = elim (prior_cases h k t) [
      | inl s ↦ c.holds (front h) k (front_in h k (kept_in k s) t)
      | inr v ↦
          let fk = v.0 in
          let less = place_less k h fk fh v.1 in
          elim (true_or (in_span (B k) k)) [
            | inl spanned ↦
                let low : (j : ℕ) → T (B k j) → T (in_span (front h) j) = λ j u.
                more (front k) (front h) (λ i w. front_in h i (and_left (G i) (B k i) w) (prior_prior h k fh fk v.1 i (and_right (G i) (B k i) w))) j (spans_prior m k (omega arith) fk j u) in
                c.grows (B k) (front h) low k spanned
            | inr new ↦ c.holds (front h) k (front_in h k (greedy_in k fk new) t)
          ]
    ]

    -- each link that is not barred is spanned by the greedy tree
    pub greedy_spans : (k : ℕ) → T (kept k || free k) → T (in_span G k)
    greedy_spans k t = elim (or_cases (kept k) (free k) t) [
      | inl s ↦ c.holds G k (kept_in k s)
      | inr f ↦ elim (true_or (in_span (B k) k)) [
        | inl spanned ↦ c.grows (B k) G (λ j u. more (front k) G (λ i w. and_left (G i) (B k i) w) j (spans_prior (suc (place k)) k (omega arith) f j u)) k spanned
        | inr new ↦ c.holds G k (greedy_in k f new)
      ]
    ]

    -- a free link left out is spanned by the greedy links before it
    pub greedy_left_out : (h : ℕ) → T (free h) → (T (G h) → ⊥) → T (in_span (front h) h)
    greedy_left_out h f out = elim (true_or (in_span (B h) h)) [
      | inl spanned ↦ c.grows (B h) (front h) (spans_prior (suc (place h)) h (omega arith) f) h spanned
      | inr new ↦ absurd (out (greedy_in h f new))
    ]

    -- the kept links and the greedy ones among the first j free ones
    abbrev upto : ℕ → ℕ → Bool
    upto j k = kept k || ((G k && free k) && ltb (place k) j)

    upto_cases : (j k : ℕ) → T (upto j k) → T (kept k) ⊎ (T (G k) × T (free k) × (place k < j))
    upto_cases j k t = elim (or_cases (kept k) ((G k && free k) && ltb (place k) j) t) [
      | inl s ↦ inl s
      | inr u ↦
          let both = and_left (G k && free k) (ltb (place k) j) u in
          inr (and_left (G k) (free k) both, and_right (G k) (free k) both, ltb→lt (place k) j (and_right (G k && free k) (ltb (place k) j) u))
    ]

    upto_kept : (j k : ℕ) → T (kept k) → T (upto j k)
    upto_kept j k t = or_left (kept k) ((G k && free k) && ltb (place k) j) t

    upto_free : (j k : ℕ) → T (G k) → T (free k) → place k < j → T (upto j k)
    upto_free j k t f l = or_right (kept k) ((G k && free k) && ltb (place k) j) (and_both (G k && free k) (ltb (place k) j) (and_both (G k) (free k) t f) (lt→ltb (place k) j l))

    -- those before a free link at place j rank before it
    upto_prior : (j h : ℕ) → T (free h) → place h ≡ j → Within (upto j) (B h)
    upto_prior j h fh e k t = elim (upto_cases j k t) [
      | inl s ↦ prior_kept h k s
      | inr v ↦ elim (ranked.either k h v.1 fh) [
        | inl q ↦ absurd (let l = v.2 in let same = ap place q in omega arith)
        | inr r ↦ elim r [
          | inl w ↦ prior_free h k v.1 w
          | inr w ↦ absurd (let l = v.2 in let less = place_less h k fh v.1 w in omega arith)
        ]
      ]
    ]

    independent_upto : Alone kept → (j : ℕ) → Alone (upto j)
    independent_upto alone zero e t s =
        let inside : Within (upto zero) kept = λ k u. elim (upto_cases zero k u) [ inl w ↦ w | inr v ↦ absurd (let l = v.2 in omega arith) ] in
        alone e (inside e t) (more (without_link (upto zero) e) (without_link kept e) (λ k u. without_in kept e k (inside k (without_old (upto zero) e k u)) (without_apart (upto zero) e k u)) e s)
    independent_upto alone (suc j) e t s =
        let here : ℕ → Bool = λ k. (G k && free k) && eqb (place k) j in
        elim (find here n) [
          | inl found ↦
              let h = found.0 in
              let both = and_left (G h && free h) (eqb (place h) j) found.2 in
              let fh = and_right (G h) (free h) both in
              let at = eqb→eq (place h) j (and_right (G h && free h) (eqb (place h) j) found.2) in
              let within : Within (upto (suc j)) (with_link (upto j) h) = λ k u. elim (upto_cases (suc j) k u) [
                | inl w ↦ with_old (upto j) h k (upto_kept j k w)
                | inr v ↦ elim (same_or (place k) j) [
                  | inl q ↦ subst (λ i. T (with_link (upto j) h i)) (sym (place_same k h v.1 fh (q ∙ sym at))) (with_new (upto j) h)
                  | inr apart ↦ with_old (upto j) h k (upto_free j k v.0 v.1 (let l = v.2 in omega arith))
                ]
              ] in
              let new : T (in_span (upto j) h) → ⊥ = λ u. elim (greedy_cases h (and_left (G h) (free h) both)) [
                | inl w ↦ ranked.apart h w fh
                | inr v ↦ v.1 (more (upto j) (B h) (upto_prior j h fh at) h u)
              ] in
              add_one (upto j) (upto (suc j)) h within (independent_upto alone j) new e t s
          | inr none ↦
              let inside : Within (upto (suc j)) (upto j) = λ k u. elim (upto_cases (suc j) k u) [
                | inl w ↦ upto_kept j k w
                | inr v ↦ elim (same_or (place k) j) [
                  | inl q ↦ absurd (none k (ranked.free_below k v.1) (and_both (G k && free k) (eqb (place k) j) (and_both (G k) (free k) v.0 v.1) (subst (λ i. T (eqb (place k) i)) q (eqb_refl (place k)))))
                  | inr apart ↦ upto_free j k v.0 v.1 (let l = v.2 in omega arith)
                ]
              ] in
              independent_upto alone j e (inside e t) (more (without_link (upto (suc j)) e) (without_link (upto j) e) (λ k u. without_in (upto j) e k (inside k (without_old (upto (suc j)) e k u)) (without_apart (upto (suc j)) e k u)) e s)
        ]

    place_most : (h : ℕ) → place h ≤ n
    place_most h = count_bound (λ k. free k && before k h) n

    pub greedy_independent : Alone kept → Alone G
    greedy_independent alone e t s =
        let inside : Within G (upto (suc n)) = λ k u. elim (greedy_cases k u) [
          | inl w ↦ upto_kept (suc n) k w
          | inr v ↦ upto_free (suc n) k u v.0 (let l = place_most k in omega arith)
        ] in
        independent_upto alone (suc n) e (inside e t) (more (without_link G e) (without_link (upto (suc n)) e) (λ k u. without_in (upto (suc n)) e k (inside k (without_old G e k u)) (without_apart G e k u)) e s)

    greedy_usable : (k : ℕ) → T (G k) → T (kept k || free k)
    greedy_usable k t = elim (greedy_cases k t) [ inl s ↦ or_left (kept k) (free k) s | inr v ↦ or_right (kept k) (free k) v.0 ]

    pub greedy_tree_lem : Alone kept → Tree in_span kept free before G
    greedy_tree_lem alone = record {
      independent = greedy_independent alone;
      holds_kept = kept_in;
      usable = greedy_usable;
      spans = greedy_spans;
    }

    pub greedy_shown : Shown in_span kept free before G
    greedy_shown h f fh out ff path =
        elim (true_or (before f h)) [
          | inl t ↦ t
          | inr after ↦ absurd (path.2 (more (front h) (without_link G f) (λ k u. without_in G f k (and_left (G k) (B h k) u) (λ q. elim (prior_cases h k (and_right (G k) (B h k) u)) [
            | inl w ↦ ranked.apart k w (subst (λ j. T (free j)) (sym q) ff)
            | inr v ↦ after (subst (λ j. T (before j h)) q v.1)
          ])) h (greedy_left_out h fh out)))
        ]

    -- in an independent set, two detours make one
    pub both_without : (X Y : ℕ → Bool) (h k : ℕ) → Alone X → Within Y X → T (Y k) → T (in_span Y h) → T (in_span (without_link X k) h) → T (in_span (without_link Y k) h)
    both_without X Y h k alone within own s t =
        let again : Within Y (with_link (without_link Y k) k) = λ j u. elim (same_or j k) [
          | inl q ↦ subst (λ i. T (with_link (without_link Y k) k i)) (sym q) (with_new (without_link Y k) k)
          | inr apart ↦ with_old (without_link Y k) k j (without_in Y k j u apart)
        ] in
        elim (c.exchange (without_link Y k) k h (more Y (with_link (without_link Y k) k) again h s)) [
          | inl r ↦ r
          | inr r ↦ absurd (alone k (within k own) (c.grows (with_link (without_link Y k) h) (without_link X k) (λ j u. elim (with_cases (without_link Y k) h j u) [
            | inl w ↦ c.holds (without_link X k) j (without_in X k j (within j (without_old Y k j w)) (without_apart Y k j w))
            | inr q ↦ subst (λ i. T (in_span (without_link X k) i)) (sym q) t
          ]) k r))
        ]

    -- a tree that is shown
    module _ (X : ℕ → Bool) (tree : Tree in_span kept free before X) (shown : Shown in_span kept free before X) where
      -- X without its links below k that do not rank before h
      abbrev left : ℕ → ℕ → ℕ → Bool
      left h k j = X j && (B h j || not (ltb j k))

      left_in : (h k j : ℕ) → T (X j) → T (B h j) ⊎ (k ≤ j) → T (left h k j)
      left_in h k j t w = and_both (X j) (B h j || not (ltb j k)) t (elim w [
        | inl b ↦ or_left (B h j) (not (ltb j k)) b
        | inr l ↦ or_right (B h j) (not (ltb j k)) (not_from (ltb j k) (λ u. let m = ltb→lt j k u in omega arith))
      ])

      left_old : (h k j : ℕ) → T (left h k j) → T (X j)
      left_old h k j t = and_left (X j) (B h j || not (ltb j k)) t

      left_cases : (h k j : ℕ) → T (left h k j) → T (B h j) ⊎ (k ≤ j)
      left_cases h k j t = elim (or_cases (B h j) (not (ltb j k)) (and_right (X j) (B h j || not (ltb j k)) t)) [
        | inl b ↦ inl b
        | inr u ↦ elim (dec_lt j k) [ yes l ↦ absurd (not_to (ltb j k) u (lt→ltb j k l)) | no l ↦ inr (omega arith) ]
      ]

      free_in : (k : ℕ) → T (X k) → (T (kept k) → ⊥) → T (free k)
      free_in k t no-kept = elim (or_cases (kept k) (free k) (tree.usable k t)) [ inl s ↦ absurd (no-kept s) | inr f ↦ f ]

      left_spans : (h : ℕ) → T (free h) → (T (X h) → ⊥) → (k : ℕ) → T (in_span (left h k) h)
      left_spans h fh out zero = more X (left h zero) (λ j t. left_in h zero j t (inr (omega arith))) h (tree.spans h (or_right (kept h) (free h) fh))
      left_spans h fh out (suc k) =
          let before-that = left_spans h fh out k in
          let next : (j : ℕ) → T (left h k j) → (j ≡ k → T (B h k)) → T (left h (suc k) j) = λ j t low.
          left_in h (suc k) j (left_old h k j t) (elim (same_or j k) [
            | inl q ↦ inl (subst (λ i. T (B h i)) (sym q) (low q))
            | inr apart ↦ elim (left_cases h k j t) [ inl b ↦ inl b | inr l ↦ inr (omega arith) ]
          ]) in
          elim (true_or (B h k)) [
            | inl b ↦ more (left h k) (left h (suc k)) (λ j t. next j t (λ q. b)) h before-that
            | inr not-b ↦ elim (true_or (X k)) [
              | inr out-k ↦ more (left h k) (left h (suc k)) (λ j t. next j t (λ q. absurd (out-k (subst (λ i. T (X i)) q (left_old h k j t))))) h before-that
              | inl in-k ↦
                  let fk = free_in k in-k (λ s. not-b (prior_kept h k s)) in
                  let detour : T (in_span (without_link X k) h) = elim (true_or (in_span (without_link X k) h)) [
                    | inl t ↦ t
                    | inr none ↦ absurd (not-b (prior_free h k fk (shown h k fh out fk (in-k, tree.spans h (or_right (kept h) (free h) fh), none))))
                  ] in
                  more (without_link (left h k) k) (left h (suc k)) (λ j t. next j (without_old (left h k) k j t) (λ q. absurd (without_apart (left h k) k j t q))) h
                  (both_without X (left h k) h k tree.independent (left_old h k) (left_in h k k in-k (inr (omega arith))) before-that detour)
            ]
          ]

      -- the links of X among the kept ones and those before h
      abbrev own_front : ℕ → ℕ → Bool
      own_front h k = X k && B h k

      pub spanned_before : (h : ℕ) → T (free h) → (T (X h) → ⊥) → T (in_span (own_front h) h)
      spanned_before h fh out = more (left h n) (own_front h) (λ j t. and_both (X j) (B h j) (left_old h n j t) (elim (left_cases h n j t) [
        | inl b ↦ b
        | inr l ↦ absurd (elim (or_cases (kept j) (free j) (tree.usable j (left_old h n j t))) [
          | inl s ↦ (let m = ranked.kept_below j s in omega arith)
          | inr f ↦ (let m = ranked.free_below j f in omega arith)
        ])
      ])) h (left_spans h fh out n)

      pub shown_in_greedy : (k : ℕ) → T (X k) → T (G k)
      shown_in_greedy k t = elim (or_cases (kept k) (free k) (tree.usable k t)) [
        | inl s ↦ kept_in k s
        | inr fk ↦ greedy_in k fk (λ spanned.
            let not_own : (j : ℕ) → T (B k j) → j ≡ k → ⊥ = λ j b q. elim (prior_cases k j b) [
              | inl s ↦ ranked.apart k (subst (λ i. T (kept i)) q s) fk
              | inr v ↦ ranked.strict k fk (subst (λ i. T (before i k)) q v.1)
            ] in
            let each : (j : ℕ) → T (B k j) → T (in_span (without_link X k) j) = λ j b. elim (true_or (X j)) [
              | inl own ↦ c.holds (without_link X k) j (without_in X k j own (not_own j b))
              | inr out ↦ elim (prior_cases k j b) [
                | inl s ↦ absurd (out (tree.holds_kept j s))
                | inr v ↦ more (own_front j) (without_link X k) (λ i u. without_in X k i (and_left (X i) (B j i) u) (not_own i (prior_prior k j fk v.0 v.1 i (and_right (X i) (B j i) u)))) j (spanned_before j v.0 out)
              ]
            ] in
            tree.independent k t (c.grows (B k) (without_link X k) each k spanned))
      ]

      pub greedy_in_shown : (k : ℕ) → T (G k) → T (X k)
      greedy_in_shown k t = elim (greedy_cases k t) [
        | inl s ↦ tree.holds_kept k s
        | inr v ↦ elim (true_or (X k)) [
          | inl own ↦ own
          | inr out ↦ absurd (v.1 (more (own_front k) (B k) (λ j u. and_right (X j) (B k j) u) k (spanned_before k v.0 out)))
        ]
      ]
