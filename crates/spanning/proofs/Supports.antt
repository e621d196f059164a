-- The least tree that holds a link, and the least that lacks one.
use Rattle.std.proofs.Common.{◌≡◌, ℕ, zero, suc, ◌<◌, ◌≤◌, Bool, not, ◌&&◌, ◌||◌, T, ltb, ◌⊎◌, sym, refl, subst, inl, inr, arith, ltb→lt, lt→ltb}
use native.Mathlib.Decide.{dec_lt}
use Rattle.spanning.specs.Closure.{Closure}
use Rattle.spanning.specs.Sets.{with_link, without_link}
use Rattle.spanning.specs.Trees.{Ranked, prior, greedy, Tree, OnPath, NoWorse, LastOnPath, Rejoins, FirstToRejoin}
use Rattle.spanning.proofs.Exchange.{one_leaves_lem, enters}
use Rattle.spanning.proofs.Greedy.{more, add_one, both_without, kept_in, prior_kept, prior_free, prior_cases, greedy_cases, greedy_in, greedy_tree_lem}
use Rattle.spanning.proofs.Least.{swapped_tree}
use Rattle.spanning.proofs.Subsets.{same_test, or_left, or_right, or_cases, and_both, and_left, and_right, not_from, not_to, true_or, same_or, with_old, with_new, with_cases, without_in, without_old, without_apart, Within}

module _ (in_span : (ℕ → Bool) → ℕ → Bool) (c : Closure in_span) (n : ℕ) (kept free : ℕ → Bool) (before : ℕ → ℕ → Bool) (ranked : Ranked n kept free before) (alone : (e : ℕ) → T (kept e) → T (in_span (without_link kept e) e) → ⊥) where
  abbrev G : ℕ → Bool
  G = greedy in_span kept free before

  abbrev B : ℕ → ℕ → Bool
  B = prior in_span kept free before

  abbrev Tr : (ℕ → Bool) → Type 0
  Tr = Tree in_span kept free before

  tree_g : Tr G
  tree_g = greedy_tree_lem in_span c n kept free before ranked alone

  below : (k : ℕ) → T (kept k || free k) → k < n
  below k t = elim (or_cases (kept k) (free k) t) [ inl s ↦ ranked.kept_below k s | inr f ↦ ranked.free_below k f ]

  -- the links of an independent set that are not on the path can all be left out
  module _ (X P : ℕ → Bool) (h : ℕ) (indep : (e : ℕ) → T (X e) → T (in_span (without_link X e) e) → ⊥) (spans-h : T (in_span X h)) (detours : (f : ℕ) → T (X f) → (T (P f) → ⊥) → T (in_span (without_link X f) h)) where
    abbrev left : ℕ → ℕ → Bool
    left k j = X j && (P j || not (ltb j k))

    left_in : (k j : ℕ) → T (X j) → T (P j) ⊎ (k ≤ j) → T (left k j)
    left_in k j t w = and_both (X j) (P j || not (ltb j k)) t (elim w [
      | inl b ↦ or_left (P j) (not (ltb j k)) b
      | inr l ↦ or_right (P j) (not (ltb j k)) (not_from (ltb j k) (λ u. let m = ltb→lt j k u in omega arith))
    ])

    left_old : (k j : ℕ) → T (left k j) → T (X j)
    left_old k j t = and_left (X j) (P j || not (ltb j k)) t

    left_cases : (k j : ℕ) → T (left k j) → T (P j) ⊎ (k ≤ j)
    left_cases k j t = elim (or_cases (P j) (not (ltb j k)) (and_right (X j) (P j || not (ltb j k)) t)) [
      | inl b ↦ inl b
      | inr u ↦ elim (dec_lt j k) [ yes l ↦ absurd (not_to (ltb j k) u (lt→ltb j k l)) | no l ↦ inr (omega arith) ]
    ]

    left_spans : (k : ℕ) → T (in_span (left k) h)
    left_spans zero = more in_span c X (left zero) (λ j t. left_in zero j t (inr (omega arith))) h spans-h
    left_spans (suc k) =
        let so_far = left_spans k in
        let next : (j : ℕ) → T (left k j) → (j ≡ k → T (P k)) → T (left (suc k) j) = λ j t low.
        left_in (suc k) j (left_old k j t) (elim (same_or j k) [
          | inl q ↦ inl (subst (λ i. T (P i)) (sym q) (low q))
          | inr apart ↦ elim (left_cases k j t) [ inl b ↦ inl b | inr l ↦ inr (omega arith) ]
        ]) in
        elim (true_or (P k)) [
          | inl b ↦ more in_span c (left k) (left (suc k)) (λ j t. next j t (λ q. b)) h so_far
          | inr not-p ↦ elim (true_or (X k)) [
            | inr out ↦ more in_span c (left k) (left (suc k)) (λ j t. next j t (λ q. absurd (out (subst (λ i. T (X i)) q (left_old k j t))))) h so_far
            | inl own ↦
                more in_span c (without_link (left k) k) (left (suc k)) (λ j t. next j (without_old (left k) k j t) (λ q. absurd (without_apart (left k) k j t q))) h
                (both_without in_span c n kept free before ranked X (left k) h k indep (left_old k) (left_in k k own (inr (omega arith))) so_far (detours k own not-p))
          ]
        ]

    pub trimmed : ((k : ℕ) → T (X k) → k < n) → T (in_span (λ j. X j && P j) h)
    trimmed bound = more in_span c (left n) (λ j. X j && P j) (λ j t. and_both (X j) (P j) (left_old n j t) (elim (left_cases n j t) [
      | inl b ↦ b
      | inr l ↦ absurd (let m = bound j (left_old n j t) in omega arith)
    ])) h (left_spans n)

  bound_g : (k : ℕ) → T (G k) → k < n
  bound_g k t = below k (tree_g.usable k t)

  -- a free link e outside the tree
  module _ (e : ℕ) (fe : T (free e)) (out : T (G e) → ⊥) where
    abbrev kept' : ℕ → Bool
    kept' = with_link kept e

    abbrev free' : ℕ → Bool
    free' = without_link free e

    loose_e : T (kept e) → ⊥
    loose_e s = ranked.apart e s fe

    pub ranked' : Ranked n kept' free' before
    ranked' = record {
      kept_below = λ k t. elim (with_cases kept e k t) [ inl s ↦ ranked.kept_below k s | inr q ↦ subst (λ j. j < n) (sym q) (ranked.free_below e fe) ];
      free_below = λ k t. ranked.free_below k (without_old free e k t);
      apart = λ k t u. elim (with_cases kept e k t) [ inl s ↦ ranked.apart k s (without_old free e k u) | inr q ↦ without_apart free e k u q ];
      strict = λ a t. ranked.strict a (without_old free e a t);
      transitive = λ a b d t u v. ranked.transitive a b d (without_old free e a t) (without_old free e b u) (without_old free e d v);
      either = λ a b t u. ranked.either a b (without_old free e a t) (without_old free e b u);
    }

    better : NoWorse e kept free before kept' free' before
    better = record {
      same_kept = λ k apart. same_test (kept k) (kept' k) (with_old kept e k) (λ t. elim (with_cases kept e k t) [ inl s ↦ s | inr q ↦ absurd (apart q) ]);
      same_free = λ k apart. same_test (free k) (free' k) (λ t. without_in free e k t apart) (without_old free e k);
      same_order = λ a b p q. refl;
      stays_kept = λ t. with_new kept e;
      stays_usable = λ t. or_left (kept' e) (free' e) (with_new kept e);
      comes_before = λ h apart fh t. or_left (kept' e) (free' e && before e h) (with_new kept e);
    }

    abbrev G' : ℕ → Bool
    G' = greedy in_span kept' free' before

    -- a tree that holds e is a tree of the table with e kept, and the other way round
    pub holding : (X : ℕ → Bool) → Tr X → T (X e) → Tree in_span kept' free' before X
    holding X tree own = record {
      independent = tree.independent;
      holds_kept = λ k t. elim (with_cases kept e k t) [ inl s ↦ tree.holds_kept k s | inr q ↦ subst (λ j. T (X j)) (sym q) own ];
      usable = λ k t. elim (same_or k e) [
        | inl q ↦ or_left (kept' k) (free' k) (subst (λ j. T (kept' j)) (sym q) (with_new kept e))
        | inr apart ↦ elim (or_cases (kept k) (free k) (tree.usable k t)) [
          | inl s ↦ or_left (kept' k) (free' k) (with_old kept e k s)
          | inr f ↦ or_right (kept' k) (free' k) (without_in free e k f apart)
        ]
      ];
      spans = λ k t. tree.spans k (elim (or_cases (kept' k) (free' k) t) [
        | inl s ↦ elim (with_cases kept e k s) [ inl u ↦ or_left (kept k) (free k) u | inr q ↦ or_right (kept k) (free k) (subst (λ j. T (free j)) (sym q) fe) ]
        | inr f ↦ or_right (kept k) (free k) (without_old free e k f)
      ]);
    }

    module _ (l : ℕ) (support : LastOnPath in_span kept free before G e l) where
      own_l : T (G l)
      own_l = support.on_path.0

      apart_l : l ≡ e → ⊥
      apart_l q = out (subst (λ j. T (G j)) q own_l)

      -- kept links do not span e
      new_e : T (in_span kept e) → ⊥
      new_e t = support.on_path.2 (more in_span c kept (without_link G l) (λ k s. without_in G l k (kept_in in_span c n kept free before ranked k s) (λ q. ranked.apart l (subst (λ j. T (kept j)) q s) support.loose)) e t)

      pub alone' : (k : ℕ) → T (kept' k) → T (in_span (without_link kept' k) k) → ⊥
      alone' = add_one in_span c kept kept' e (λ k t. t) alone new_e

      -- the greedy links before l, and l, span e
      abbrev upto_l : ℕ → Bool
      upto_l = with_link (B l) l

      through_l : T (in_span (λ j. G j && upto_l j) e)
      through_l = trimmed G upto_l e tree_g.independent support.on_path.1
          (λ f t not-p. elim (true_or (in_span (without_link G f) e)) [
            | inl u ↦ u
            | inr none ↦ absurd (elim (greedy_cases in_span c n kept free before ranked f t) [
              | inl s ↦ not-p (with_old (B l) l f (prior_kept in_span c n kept free before ranked l f s))
              | inr v ↦ elim (support.last f v.0 (t, support.on_path.1, none)) [
                | inl q ↦ not-p (subst (λ j. T (upto_l j)) (sym q) (with_new (B l) l))
                | inr w ↦ not-p (with_old (B l) l f (prior_free in_span c n kept free before ranked l f v.0 w))
              ]
            ])
          ])
          bound_g

      abbrev front : ℕ → Bool
      front k = G k && B l k

      front_new : T (in_span front e) → ⊥
      front_new t = support.on_path.2 (more in_span c front (without_link G l) (λ k s. without_in G l k (and_left (G k) (B l k) s) (λ q. elim (prior_cases in_span c n kept free before ranked l k (and_right (G k) (B l k) s)) [
        | inl u ↦ ranked.apart l (subst (λ j. T (kept j)) q u) support.loose
        | inr v ↦ ranked.strict l support.loose (subst (λ j. T (before j l)) q v.1)
      ])) e t)

      leaves_l : T (G' l) → ⊥
      leaves_l t =
          let inside : Within (λ j. G j && upto_l j) (with_link front l) = λ k s. elim (with_cases (B l) l k (and_right (G k) (upto_l k) s)) [
            | inl b ↦ with_old front l k (and_both (G k) (B l k) (and_left (G k) (upto_l k) s) b)
            | inr q ↦ subst (λ j. T (with_link front l j)) (sym q) (with_new front l)
          ] in
          let spans_l : T (in_span (with_link front e) l) = elim (c.exchange front l e (more in_span c (λ j. G j && upto_l j) (with_link front l) inside e through_l)) [
            | inl u ↦ absurd (front_new u)
            | inr u ↦ u
          ] in
          let within : Within (with_link front e) (prior in_span kept' free' before l) = λ k s. elim (with_cases front e k s) [
            | inl u ↦ elim (prior_cases in_span c n kept free before ranked l k (and_right (G k) (B l k) u)) [
              | inl w ↦ prior_kept in_span c n kept' free' before ranked' l k (with_old kept e k w)
              | inr v ↦ prior_free in_span c n kept' free' before ranked' l k (without_in free e k v.0 (λ q. out (subst (λ j. T (G j)) q (and_left (G k) (B l k) u)))) v.1
            ]
            | inr q ↦ prior_kept in_span c n kept' free' before ranked' l k (subst (λ j. T (kept' j)) (sym q) (with_new kept e))
          ] in
          elim (greedy_cases in_span c n kept' free' before ranked' l t) [
            | inl s ↦ elim (with_cases kept e l s) [ inl u ↦ ranked.apart l u support.loose | inr q ↦ apart_l q ]
            | inr v ↦ v.1 (more in_span c (with_link front e) (prior in_span kept' free' before l) within l spans_l)
          ]

      -- the least tree that holds e is the tree with its support exchanged for it
      pub holds_exchanged : (k : ℕ) → G' k ≡ with_link (without_link G l) e k
      holds_exchanged k = same_test (G' k) (with_link (without_link G l) e k)
          (λ t. elim (true_or (G k)) [
            | inl own ↦ with_old (without_link G l) e k (without_in G l k own (λ q. leaves_l (subst (λ j. T (G' j)) q t)))
            | inr not_own ↦ subst (λ j. T (with_link (without_link G l) e j)) (sym (enters in_span c n e kept free before kept' free' before ranked ranked' better k t not_own)) (with_new (without_link G l) e)
          ])
          (λ t. elim (with_cases (without_link G l) e k t) [
            | inl s ↦ elim (true_or (G' k)) [
              | inl u ↦ u
              | inr gone ↦ absurd (without_apart G l k s (one_leaves_lem in_span c n e kept free before kept' free' before ranked ranked' better k l (without_old G l k s) gone own_l leaves_l))
            ]
            | inr q ↦ subst (λ j. T (G' j)) (sym q) (kept_in in_span c n kept' free' before ranked' e (with_new kept e))
          ])

      -- and it is a tree
      pub holds_tree : Tr (with_link (without_link G l) e)
      holds_tree = swapped_tree in_span c n kept free before ranked G tree_g l e own_l (λ s. ranked.apart l s support.loose) fe support.on_path.2

    -- without a free link on its path, no tree holds e
    pub none_holds : ((f : ℕ) → T (free f) → OnPath in_span kept free before G e f → ⊥) → (X : ℕ → Bool) → Tr X → T (X e) → ⊥
    none_holds none X tree own =
        let by-kept : T (in_span (λ j. G j && kept j) e) = trimmed G kept e tree_g.independent (tree_g.spans e (or_right (kept e) (free e) fe))
        (λ f t not_kept. elim (true_or (in_span (without_link G f) e)) [
          | inl u ↦ u
          | inr on-path ↦ absurd (elim (greedy_cases in_span c n kept free before ranked f t) [
            | inl s ↦ not_kept s
            | inr v ↦ none f v.0 (t, tree_g.spans e (or_right (kept e) (free e) fe), on-path)
          ])
        ])
        bound_g in
        tree.independent e own (more in_span c (λ j. G j && kept j) (without_link X e) (λ k t. without_in X e k (tree.holds_kept k (and_right (G k) (kept k) t)) (λ q. loose_e (subst (λ j. T (kept j)) q (and_right (G k) (kept k) t)))) e by-kept)

  -- a free link e in the tree
  module _ (e : ℕ) (fe : T (free e)) (own : T (G e)) where
    abbrev free'' : ℕ → Bool
    free'' = without_link free e

    pub ranked'' : Ranked n kept free'' before
    ranked'' = record {
      kept_below = ranked.kept_below;
      free_below = λ k t. ranked.free_below k (without_old free e k t);
      apart = λ k t u. ranked.apart k t (without_old free e k u);
      strict = λ a t. ranked.strict a (without_old free e a t);
      transitive = λ a b d t u v. ranked.transitive a b d (without_old free e a t) (without_old free e b u) (without_old free e d v);
      either = λ a b t u. ranked.either a b (without_old free e a t) (without_old free e b u);
    }

    -- to free a barred link makes it no worse
    freed : NoWorse e kept free'' before kept free before
    freed = record {
      same_kept = λ k apart. refl;
      same_free = λ k apart. same_test (free'' k) (free k) (without_old free e k) (λ t. without_in free e k t apart);
      same_order = λ a b p q. refl;
      stays_kept = λ t. t;
      stays_usable = λ t. absurd (without_apart free e e t refl);
      comes_before = λ h apart fh t. elim (or_cases (kept e) (free'' e && before e h) t) [
        | inl s ↦ or_left (kept e) (free e && before e h) s
        | inr u ↦ absurd (without_apart free e e (and_left (free'' e) (before e h) u) refl)
      ];
    }

    abbrev G'' : ℕ → Bool
    G'' = greedy in_span kept free'' before

    -- a tree that lacks e is a tree of the table with e barred
    pub lacking : (X : ℕ → Bool) → Tr X → (T (X e) → ⊥) → Tree in_span kept free'' before X
    lacking X tree lacks = record {
      independent = tree.independent;
      holds_kept = tree.holds_kept;
      usable = λ k t. elim (or_cases (kept k) (free k) (tree.usable k t)) [
        | inl s ↦ or_left (kept k) (free'' k) s
        | inr f ↦ or_right (kept k) (free'' k) (without_in free e k f (λ q. lacks (subst (λ j. T (X j)) q t)))
      ];
      spans = λ k t. tree.spans k (elim (or_cases (kept k) (free'' k) t) [
        | inl s ↦ or_left (kept k) (free k) s
        | inr f ↦ or_right (kept k) (free k) (without_old free e k f)
      ]);
    }

    not_kept_e : T (kept e) → ⊥
    not_kept_e s = ranked.apart e s fe

    barred_e : T (G'' e) → ⊥
    barred_e t = elim (greedy_cases in_span c n kept free'' before ranked'' e t) [
      | inl s ↦ not_kept_e s
      | inr v ↦ without_apart free e e v.0 refl
    ]

    module _ (g : ℕ) (support : FirstToRejoin in_span kept free before G e g) where
      apart_g : g ≡ e → ⊥
      apart_g q = support.rejoins.1 (subst (λ j. T (G j)) (sym q) own)

      -- what ranks before g is spanned by the tree without e
      prior_spanned : (k : ℕ) → T (prior in_span kept free'' before g k) → T (in_span (without_link G e) k)
      prior_spanned k t = elim (prior_cases in_span c n kept free'' before ranked'' g k t) [
        | inl s ↦ c.holds (without_link G e) k (without_in G e k (kept_in in_span c n kept free before ranked k s) (λ q. not_kept_e (subst (λ j. T (kept j)) q s)))
        | inr v ↦
            let fk = without_old free e k v.0 in
            elim (true_or (in_span (without_link G e) k)) [
              | inl u ↦ u
              | inr new ↦ absurd (
                  let not_own : T (G k) → ⊥ = λ w. new (c.holds (without_link G e) k (without_in G e k w (without_apart free e k v.0))) in
                  elim (support.first k (fk, not_own, new)) [
                    | inl q ↦ ranked.strict k fk (subst (λ j. T (before k j)) (sym q) v.1)
                    | inr w ↦ ranked.strict k fk (ranked.transitive k g k fk support.rejoins.0 fk v.1 w)
                  ])
            ]
      ]

      enters_g : T (G'' g)
      enters_g = greedy_in in_span c n kept free'' before ranked'' g (without_in free e g support.rejoins.0 apart_g) (λ t. support.rejoins.2 (c.grows (prior in_span kept free'' before g) (without_link G e) prior_spanned g t))

      -- the least tree that lacks e is the tree with e exchanged for its support
      pub lacks_exchanged : (k : ℕ) → G'' k ≡ with_link (without_link G e) g k
      lacks_exchanged k = same_test (G'' k) (with_link (without_link G e) g k)
          (λ t. elim (true_or (G k)) [
            | inl u ↦ with_old (without_link G e) g k (without_in G e k u (λ q. barred_e (subst (λ j. T (G'' j)) q t)))
            | inr not_own ↦ subst (λ j. T (with_link (without_link G e) g j)) (sym (one_leaves_lem in_span c n e kept free'' before kept free before ranked'' ranked freed k g t not_own enters_g support.rejoins.1)) (with_new (without_link G e) g)
          ])
          (λ t. elim (with_cases (without_link G e) g k t) [
            | inl s ↦ elim (true_or (G'' k)) [
              | inl u ↦ u
              | inr gone ↦ absurd (without_apart G e k s (enters in_span c n e kept free'' before kept free before ranked'' ranked freed k (without_old G e k s) gone))
            ]
            | inr q ↦ subst (λ j. T (G'' j)) (sym q) enters_g
          ])

      -- and it is a tree
      pub lacks_tree : Tr (with_link (without_link G e) g)
      lacks_tree = swapped_tree in_span c n kept free before ranked G tree_g e g own not_kept_e support.rejoins.0 support.rejoins.2

    -- where nothing rejoins the halves, every tree holds e
    pub all_hold : ((g : ℕ) → Rejoins in_span kept free before G e g → ⊥) → (X : ℕ → Bool) → Tr X → T (X e)
    all_hold none X tree = elim (true_or (X e)) [
      | inl t ↦ t
      | inr lacks ↦ absurd (tree_g.independent e own (c.grows X (without_link G e) (λ k t. elim (true_or (in_span (without_link G e) k)) [
        | inl u ↦ u
        | inr new ↦ absurd (
            let apart : k ≡ e → ⊥ = λ q. lacks (subst (λ j. T (X j)) q t) in
            let not_own : T (G k) → ⊥ = λ w. new (c.holds (without_link G e) k (without_in G e k w apart)) in
            elim (or_cases (kept k) (free k) (tree.usable k t)) [
              | inl s ↦ not_own (kept_in in_span c n kept free before ranked k s)
              | inr f ↦ none k (f, not_own, new)
            ])
      ]) e (tree.spans e (or_right (kept e) (free e) fe))))
    ]
