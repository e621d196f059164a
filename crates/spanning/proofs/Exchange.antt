-- One link is changed: at most one other leaves the greedy tree, and at most one enters.
use Rattle.std.proofs.Common.{◌≡◌, ℕ, Bool, ◌&&◌, T, sym, ◌∙◌, subst, inl, inr}
use Rattle.spanning.specs.Closure.{Closure}
use Rattle.spanning.specs.Sets.{with_link}
use Rattle.spanning.specs.Trees.{Ranked, prior, greedy, NoWorse, AtMostOneLeaves}
use Rattle.spanning.proofs.Greedy.{more, kept_in, prior_kept, prior_free, prior_cases, prior_prior, greedy_cases, greedy_in}
use Rattle.spanning.proofs.Subsets.{or_right, or_cases, and_both, and_right, true_or, same_or, with_old, with_new, with_cases, Within}

module _ (in_span : (ℕ → Bool) → ℕ → Bool) (c : Closure in_span) (n e : ℕ) (kept free : ℕ → Bool) (before : ℕ → ℕ → Bool) (kept' free' : ℕ → Bool) (before' : ℕ → ℕ → Bool) (ranked : Ranked n kept free before) (ranked' : Ranked n kept' free' before') (better : NoWorse e kept free before kept' free' before') where
  abbrev G : ℕ → Bool
  G = greedy in_span kept free before

  abbrev G' : ℕ → Bool
  G' = greedy in_span kept' free' before'

  abbrev B : ℕ → ℕ → Bool
  B = prior in_span kept free before

  abbrev B' : ℕ → ℕ → Bool
  B' = prior in_span kept' free' before'

  to_kept : (k : ℕ) → (k ≡ e → ⊥) → T (kept k) → T (kept' k)
  to_kept k apart t = subst T (better.same_kept k apart) t

  from_kept : (k : ℕ) → (k ≡ e → ⊥) → T (kept' k) → T (kept k)
  from_kept k apart t = subst T (sym (better.same_kept k apart)) t

  to_free : (k : ℕ) → (k ≡ e → ⊥) → T (free k) → T (free' k)
  to_free k apart t = subst T (better.same_free k apart) t

  from_free : (k : ℕ) → (k ≡ e → ⊥) → T (free' k) → T (free k)
  from_free k apart t = subst T (sym (better.same_free k apart)) t

  -- before another link come no fewer
  prior_grows : (h : ℕ) → (h ≡ e → ⊥) → T (free h) → Within (B h) (B' h)
  prior_grows h apart fh k t = elim (same_or k e) [
    | inl q ↦ subst (λ j. T (B' h j)) (sym q) (better.comes_before h apart fh (subst (λ j. T (B h j)) q t))
    | inr other ↦ elim (prior_cases in_span c n kept free before ranked h k t) [
      | inl s ↦ prior_kept in_span c n kept' free' before' ranked' h k (to_kept k other s)
      | inr v ↦ prior_free in_span c n kept' free' before' ranked' h k (to_free k other v.0) (subst T (better.same_order k h other apart) v.1)
    ]
  ]

  -- and at most e more
  prior_with : (h : ℕ) → (h ≡ e → ⊥) → Within (B' h) (with_link (B h) e)
  prior_with h apart k t = elim (same_or k e) [
    | inl q ↦ subst (λ j. T (with_link (B h) e j)) (sym q) (with_new (B h) e)
    | inr other ↦ with_old (B h) e k (elim (prior_cases in_span c n kept' free' before' ranked' h k t) [
      | inl s ↦ prior_kept in_span c n kept free before ranked h k (from_kept k other s)
      | inr v ↦ prior_free in_span c n kept free before ranked h k (from_free k other v.0) (subst T (sym (better.same_order k h other apart)) v.1)
    ])
  ]

  -- before e come no more
  prior_shrinks : T (free e) → T (free' e) → Within (B' e) (B e)
  prior_shrinks fe fe' k t = elim (same_or k e) [
    | inl q ↦ absurd (elim (prior_cases in_span c n kept' free' before' ranked' e k t) [
      | inl s ↦ ranked'.apart e (subst (λ j. T (kept' j)) q s) fe'
      | inr v ↦ ranked'.strict e fe' (subst (λ j. T (before' j e)) q v.1)
    ])
    | inr other ↦ elim (prior_cases in_span c n kept' free' before' ranked' e k t) [
      | inl s ↦ prior_kept in_span c n kept free before ranked e k (from_kept k other s)
      | inr v ↦
          let fk = from_free k other v.0 in
          elim (ranked.either k e fk fe) [
            | inl q ↦ absurd (other q)
            | inr r ↦ elim r [
              | inl w ↦ prior_free in_span c n kept free before ranked e k fk w
              | inr w ↦ absurd (elim (or_cases (kept' e) (free' e && before' e k) (better.comes_before k other fk (or_right (kept e) (free e && before e k) (and_both (free e) (before e k) fe w)))) [
                | inl s ↦ ranked'.apart e s fe'
                | inr u ↦ ranked'.strict e fe' (ranked'.transitive e k e fe' v.0 fe' (and_right (free' e) (before' e k) u) v.1)
              ])
            ]
          ]
    ]
  ]

  -- e does not leave
  stays : T (G e) → T (G' e)
  stays t = elim (greedy_cases in_span c n kept free before ranked e t) [
    | inl s ↦ kept_in in_span c n kept' free' before' ranked' e (better.stays_kept s)
    | inr v ↦ elim (or_cases (kept' e) (free' e) (better.stays_usable v.0)) [
      | inl s ↦ kept_in in_span c n kept' free' before' ranked' e s
      | inr fe' ↦ greedy_in in_span c n kept' free' before' ranked' e fe' (λ u. v.1 (more in_span c (B' e) (B e) (prior_shrinks v.0 fe') e u))
    ]
  ]

  -- what leaves
  pub record Leaver (k : ℕ) : Type 0 where
    pub other : k ≡ e → ⊥
    pub loose : T (free k)
    pub new : T (in_span (B k) k) → ⊥
    pub spanned : T (in_span (B' k) k)

  pub leaver : (k : ℕ) → T (G k) → (T (G' k) → ⊥) → Leaver k
  leaver k t out =
      let other : k ≡ e → ⊥ = λ q. out (subst (λ j. T (G' j)) (sym q) (stays (subst (λ j. T (G j)) q t))) in
      elim (greedy_cases in_span c n kept free before ranked k t) [
        | inl s ↦ absurd (out (kept_in in_span c n kept' free' before' ranked' k (to_kept k other s)))
        | inr v ↦ record {
          other = other;
          loose = v.0;
          new = v.1;
          spanned = elim (true_or (in_span (B' k) k)) [
            | inl u ↦ u
            | inr none ↦ absurd (out (greedy_in in_span c n kept' free' before' ranked' k (to_free k other v.0) none))
          ];
        }
      ]

  -- a link that leaves has e before it, or joins what is before it to e
  pub leaver_joins : (k : ℕ) → Leaver k → T (in_span (with_link (B k) k) e)
  leaver_joins k l = elim (c.exchange (B k) e k (more in_span c (B' k) (with_link (B k) e) (prior_with k l.other) k l.spanned)) [
    | inl u ↦ absurd (l.new u)
    | inr u ↦ u
  ]

  no_two : (a b : ℕ) → Leaver a → Leaver b → T (before a b) → ⊥
  no_two a b la lb t =
      let inside : Within (with_link (B a) a) (B b) = λ k u. elim (with_cases (B a) a k u) [
        | inl s ↦ prior_prior in_span c n kept free before ranked b a lb.loose la.loose t k s
        | inr q ↦ subst (λ j. T (B b j)) (sym q) (prior_free in_span c n kept free before ranked b a la.loose t)
      ] in
      let has-e = more in_span c (with_link (B a) a) (B b) inside e (leaver_joins a la) in
      lb.new (c.grows (B' b) (B b) (λ k u. elim (with_cases (B b) e k (prior_with b lb.other k u)) [
        | inl s ↦ c.holds (B b) k s
        | inr q ↦ subst (λ j. T (in_span (B b) j)) (sym q) has-e
      ]) b lb.spanned)

  pub one_leaves_lem : AtMostOneLeaves G G'
  one_leaves_lem a b ta oa tb ob =
      let la = leaver a ta oa in
      let lb = leaver b tb ob in
      elim (ranked.either a b la.loose lb.loose) [
        | inl q ↦ q
        | inr r ↦ absurd (elim r [ inl t ↦ no_two a b la lb t | inr t ↦ no_two b a lb la t ])
      ]

  -- what enters is e
  pub enters : (k : ℕ) → T (G' k) → (T (G k) → ⊥) → k ≡ e
  enters k t out = elim (same_or k e) [
    | inl q ↦ q
    | inr other ↦ absurd (elim (greedy_cases in_span c n kept' free' before' ranked' k t) [
      | inl s ↦ out (kept_in in_span c n kept free before ranked k (from_kept k other s))
      | inr v ↦
          let fk = from_free k other v.0 in
          out (greedy_in in_span c n kept free before ranked k fk (λ u. v.1 (more in_span c (B k) (B' k) (prior_grows k other fk) k u)))
    ])
  ]

  pub one_enters_lem : AtMostOneLeaves G' G
  one_enters_lem a b ta oa tb ob = enters a ta oa ∙ sym (enters b tb ob)
