-- The links of a tree, joined by rank.
use Rattle.std.proofs.Common.{◌≡◌, ℕ, ◌+◌, ◌<◌, ◌≤◌, Bool, true, false, not, ◌&&◌, ◌||◌, T, eqb, ltb, ◌⊎◌, List, [], ◌∷◌, ◌++◌, length, get_or, take, sym, refl, ap, ◌∙◌, subst, inl, inr, arith, ltb→lt, lt→ltb}
use native.Mathlib.Decide.{dec_lt}
use Rattle.std.proofs.lemmas.List.{length_push, get_or_push, get_or_append_left, take_all}
use Rattle.spanning.specs.Joined.{Joined, NoRing}
use Rattle.spanning.specs.Joined.Joined.{same}
use Rattle.spanning.specs.Sets.{with_link, without_link}
use Rattle.spanning.specs.Trees.{Ranked, Ordered}
use Rattle.spanning.proofs.Chains.{wider}
use Rattle.spanning.proofs.Subsets.{or_left, or_right, or_cases, and_both, and_left, and_right, not_from, not_to, true_or, same_or, same_test, with_old, with_new, with_cases, without_in, Within}
use Rattle.forest.specs.declared.merges.Merges.{Merges}
use Rattle.forest.specs.declared.networks.Network.{Network}
use Rattle.forest.specs.Growing.{kept_of, free_of}
use Rattle.forest.specs.Merges.{among, joins_of, Remembers}
use Rattle.forest.specs.Paths.{ComesNext, FreeByRank, JoinedByRank, rest_of}
use Rattle.forest.specs.Readings.{count_of, links_of}
use Rattle.forest.proofs.GrowOrder.{among_next}
use Rattle.forest.proofs.GrowSteps.{is_false, finite}
use Rattle.forest.proofs.MergeJoins.{among_push}
use Rattle.forest.proofs.MergePaths.{among_at, place_in_front}

-- those of the links of X that are not free whose numbers are below i
abbrev pub rest_below : Network → (ℕ → Bool) → ℕ → ℕ → Bool
rest_below n X i k = rest_of n X k && ltb k i

-- the links of X that are not free or among the first i of a list
abbrev pub ranked_to : Network → (ℕ → Bool) → List ℕ → ℕ → ℕ → Bool
ranked_to n X order i k = X k && (not (free_of n k) || among (take i order) k)

-- one more link
module _ (n : Network) (before : ℕ → ℕ → Bool) where
  moved : (a b c d : ℕ) → a ≡ c → b ≡ d → T (free_of n b) × T (before a b) → T (free_of n d) × T (before c d)
  moved a b c d p q v = (subst (λ k. T (free_of n k)) q v.0, subst (λ k. T (before c k)) q (subst (λ k. T (before k b)) p v.1))

  by_rank_push : (js : List ℕ) (l : ℕ) → FreeByRank n before js → ((k : ℕ) → T (among js k) → T (free_of n k) → T (free_of n l) × T (before k l)) → FreeByRank n before (js ++ l ∷ [])
  by_rank_push js l old late s t less lt loose =
      let long = length_push js l in
      let early : s < length js = omega arith in
      let at-s = get_or_append_left js (l ∷ []) 0 s early in
      let was = subst (λ k. T (free_of n k)) at-s loose in
      elim (dec_lt t (length js)) [
        | yes inside ↦ moved (get_or js s 0) (get_or js t 0) (get_or (js ++ l ∷ []) s 0) (get_or (js ++ l ∷ []) t 0) (sym at-s) (sym (get_or_append_left js (l ∷ []) 0 t inside)) (old s t less inside was)
        | no last ↦ moved (get_or js s 0) l (get_or (js ++ l ∷ []) s 0) (get_or (js ++ l ∷ []) t 0) (sym at-s) (sym (get_or_push js l 0 t (omega arith))) (late (get_or js s 0) (among_at js s early) was)
      ]

  pub joined_same : (S R : ℕ → Bool) (m : Merges) → ((k : ℕ) → S k ≡ R k) → JoinedByRank n before S m → JoinedByRank n before R m
  joined_same S R m e old = record { remembers = old.remembers; links = λ k. old.links k ∙ e k; by_rank = old.by_rank }

  -- no join is refused, for the tree has no ring
  module _ (X S : ℕ → Bool) (m m' : Merges) (l : ℕ) (alone : NoRing (links_of n) X) (next : ComesNext n X before S l) (old : JoinedByRank n before S m) where
    refused : Joined (links_of n) (among (joins_of m)) ((links_of n).first l) ((links_of n).second l) → ⊥
    refused d = alone l next.own (wider (links_of n) (among (joins_of m)) (without_link X l) (λ k t. next.others k (subst T (old.links k) t)) ((links_of n).first l) ((links_of n).second l) d)

    pub joined_more : (r : Bool) → (T r → joins_of m' ≡ joins_of m ++ l ∷ []) → (r ≡ false → Joined (links_of n) (among (joins_of m)) ((links_of n).first l) ((links_of n).second l)) → Remembers m' (links_of n) → JoinedByRank n before (with_link S l) m'
    joined_more r joins stale told = elim (true_or r) [
      | inl t ↦ record {
        remembers = told;
        links = λ k. ap (λ js. among js k) (joins t) ∙ among_push (joins_of m) l k ∙ ap (λ b. b || eqb k l) (old.links k);
        by_rank = subst (FreeByRank n before) (sym (joins t)) (by_rank_push (joins_of m) l old.by_rank (λ k u. next.late k (subst T (old.links k) u)));
      }
      | inr no-t ↦ absurd (refused (stale (is_false r no-t)))
    ]

-- the links of P below the next number
module _ (P : ℕ → Bool) (i k : ℕ) where
  below_more : T (P k && ltb k i) → T (P k && ltb k (i + 1))
  below_more t = and_both (P k) (ltb k (i + 1)) (and_left (P k) (ltb k i) t) (lt→ltb k (i + 1) (let l = ltb→lt k i (and_right (P k) (ltb k i) t) in omega arith))

  below_less : (k ≡ i → ⊥) → T (P k && ltb k (i + 1)) → T (P k && ltb k i)
  below_less apart t = and_both (P k) (ltb k i) (and_left (P k) (ltb k (i + 1)) t) (lt→ltb k i (let l = ltb→lt k (i + 1) (and_right (P k) (ltb k (i + 1)) t) in omega arith))

  below_with : T (P i) → with_link (λ j. P j && ltb j i) i k ≡ (P k && ltb k (i + 1))
  below_with own = same_test (with_link (λ j. P j && ltb j i) i k) (P k && ltb k (i + 1))
      (λ t. elim (with_cases (λ j. P j && ltb j i) i k t) [
        | inl s ↦ below_more s
        | inr q ↦ and_both (P k) (ltb k (i + 1)) (subst (λ j. T (P j)) (sym q) own) (lt→ltb k (i + 1) (omega arith))
      ])
      (λ t. elim (same_or k i) [
        | inl q ↦ subst (λ j. T (with_link (λ h. P h && ltb h i) i j)) (sym q) (with_new (λ h. P h && ltb h i) i)
        | inr apart ↦ with_old (λ j. P j && ltb j i) i k (below_less apart t)
      ])

  below_skip : (T (P i) → ⊥) → (P k && ltb k i) ≡ (P k && ltb k (i + 1))
  below_skip out = same_test (P k && ltb k i) (P k && ltb k (i + 1)) below_more (λ t. below_less (λ q. out (subst (λ j. T (P j)) q (and_left (P k) (ltb k (i + 1)) t))) t)

-- the links that are not free, by number
module _ (n : Network) (X : ℕ → Bool) where
  rest_tight : (i : ℕ) → Within (rest_below n X i) (without_link X i)
  rest_tight i k t =
      let less = ltb→lt k i (and_right (rest_of n X k) (ltb k i) t) in
      without_in X i k (and_left (X k) (not (free_of n k)) (and_left (rest_of n X k) (ltb k i) t)) (λ q. omega arith)

  rest_not_free : (i k : ℕ) → T (rest_below n X i k) → T (free_of n k) → ⊥
  rest_not_free i k t = not_to (free_of n k) (and_right (X k) (not (free_of n k)) (and_left (rest_of n X k) (ltb k i) t))

  pub rest_next : (before : ℕ → ℕ → Bool) (i : ℕ) → T (X i) → ComesNext n X before (rest_below n X i) i
  rest_next before i own = record { own = own; others = rest_tight i; late = λ k t loose. absurd (rest_not_free i k t loose) }

  pub rest_with : (i : ℕ) → T (X i) → (T (free_of n i) → ⊥) → (k : ℕ) → with_link (rest_below n X i) i k ≡ rest_below n X (i + 1) k
  rest_with i own out k = below_with (rest_of n X) i k (and_both (X i) (not (free_of n i)) own (not_from (free_of n i) out))

  pub rest_skip : (i : ℕ) → (T (rest_of n X i) → ⊥) → (k : ℕ) → rest_below n X i k ≡ rest_below n X (i + 1) k
  rest_skip i out k = below_skip (rest_of n X) i k out

  rest_none : (k : ℕ) → false ≡ rest_below n X 0 k
  rest_none k = sym (is_false (rest_below n X 0 k) (λ t. let l = ltb→lt k 0 (and_right (rest_of n X k) (ltb k 0) t) in omega arith))

  pub joined_none : (before : ℕ → ℕ → Bool) (m : Merges) → joins_of m ≡ [] → Remembers m (links_of n) → JoinedByRank n before (rest_below n X 0) m
  joined_none before m none told = record {
    remembers = told;
    links = λ k. ap (λ js. among js k) none ∙ rest_none k;
    by_rank = subst (FreeByRank n before) (sym none) (λ s t less lt. absurd (omega arith));
  }

  -- the links of a tree without a ring are the network's
  below_count : NoRing (links_of n) X → (k : ℕ) → T (X k) → k < count_of n
  below_count alone k t = elim (dec_lt k (count_of n)) [
    | yes l ↦ l
    | no past ↦ absurd (alone k t (subst (λ y. Joined (links_of n) (without_link X k) ((links_of n).first k) y) (finite n k (omega arith)) (same ((links_of n).first k))))
  ]

  pub rest_all : NoRing (links_of n) X → (last : ℕ) → ((k : ℕ) → T (X k) → k < count_of n → k < last) → (k : ℕ) → rest_below n X last k ≡ rest_of n X k
  rest_all alone last all k = tests (X k) (not (free_of n k)) (ltb k last) (λ t. lt→ltb k last (all k t (below_count alone k t))) where
    tests : (a b c : Bool) → (T a → T c) → ((a && b) && c) ≡ (a && b)
    tests false b c h = refl
    tests true false c h = refl
    tests true true true h = refl
    tests true true false h = absurd (h tt)

  pub rest_ranked : (order : List ℕ) (k : ℕ) → rest_of n X k ≡ ranked_to n X order 0 k
  rest_ranked order k = elim (not (free_of n k)) as (λ b. (X k && b) ≡ (X k && (b || false))) [ true ↦ refl | false ↦ refl ]

-- the free links, by rank
module _ (n : Network) (X : ℕ → Bool) (order : List ℕ) (before : ℕ → ℕ → Bool) (ranked : Ranked (count_of n) (kept_of n) (free_of n) before) (ordered : Ordered (free_of n) before order) where
  module _ (i : ℕ) (within : i < length order) where
    abbrev l : ℕ
    l = get_or order i 0

    loose : T (free_of n l)
    loose = ordered.each i within

    among_before : (k : ℕ) → T (among (take i order) k) → T (before k l)
    among_before k t = let p = place_in_front order i k t in subst (λ j. T (before j l)) p.is (ordered.sorted p.at i p.early within)

    free_among : (k : ℕ) → T (ranked_to n X order i k) → T (free_of n k) → T (among (take i order) k)
    free_among k t fk = elim (or_cases (not (free_of n k)) (among (take i order) k) (and_right (X k) (not (free_of n k) || among (take i order) k) t)) [
      | inl out ↦ absurd (not_to (free_of n k) out fk)
      | inr u ↦ u
    ]

    ranked_late : (k : ℕ) → T (ranked_to n X order i k) → T (free_of n k) → T (free_of n l) × T (before k l)
    ranked_late k t fk = (loose, among_before k (free_among k t fk))

    ranked_tight : Within (ranked_to n X order i) (without_link X l)
    ranked_tight k t = without_in X l k (and_left (X k) (not (free_of n k) || among (take i order) k) t) (λ q. let u = subst (λ j. T (ranked_to n X order i j)) q t in ranked.strict l loose (among_before l (free_among l u loose)))

    pub ranked_next : T (X l) → ComesNext n X before (ranked_to n X order i) l
    ranked_next own = record { own = own; others = ranked_tight; late = ranked_late }

    among_more : (k : ℕ) → T (ranked_to n X order i k) → T (ranked_to n X order (i + 1) k)
    among_more k t = and_both (X k) (not (free_of n k) || among (take (i + 1) order) k) (and_left (X k) (not (free_of n k) || among (take i order) k) t) (elim (or_cases (not (free_of n k)) (among (take i order) k) (and_right (X k) (not (free_of n k) || among (take i order) k) t)) [
      | inl out ↦ or_left (not (free_of n k)) (among (take (i + 1) order) k) out
      | inr u ↦ or_right (not (free_of n k)) (among (take (i + 1) order) k) (subst T (sym (among_next order i k within)) (with_old (among (take i order)) l k u))
    ])

    among_less : (k : ℕ) → T (ranked_to n X order (i + 1) k) → T (ranked_to n X order i k) ⊎ ((k ≡ l) × T (X k))
    among_less k t =
        let own = and_left (X k) (not (free_of n k) || among (take (i + 1) order) k) t in
        elim (or_cases (not (free_of n k)) (among (take (i + 1) order) k) (and_right (X k) (not (free_of n k) || among (take (i + 1) order) k) t)) [
          | inl out ↦ inl (and_both (X k) (not (free_of n k) || among (take i order) k) own (or_left (not (free_of n k)) (among (take i order) k) out))
          | inr u ↦ elim (with_cases (among (take i order)) l k (subst T (among_next order i k within) u)) [
            | inl s ↦ inl (and_both (X k) (not (free_of n k) || among (take i order) k) own (or_right (not (free_of n k)) (among (take i order) k) s))
            | inr q ↦ inr (q, own)
          ]
        ]

    pub ranked_with : T (X l) → (k : ℕ) → with_link (ranked_to n X order i) l k ≡ ranked_to n X order (i + 1) k
    ranked_with own k = same_test (with_link (ranked_to n X order i) l k) (ranked_to n X order (i + 1) k)
        (λ t. elim (with_cases (ranked_to n X order i) l k t) [
          | inl s ↦ among_more k s
          | inr q ↦ subst (λ j. T (ranked_to n X order (i + 1) j)) (sym q) (and_both (X l) (not (free_of n l) || among (take (i + 1) order) l) own (or_right (not (free_of n l)) (among (take (i + 1) order) l) (subst T (sym (among_next order i l within)) (with_new (among (take i order)) l))))
        ])
        (λ t. elim (among_less k t) [
          | inl s ↦ with_old (ranked_to n X order i) l k s
          | inr v ↦ subst (λ j. T (with_link (ranked_to n X order i) l j)) (sym v.0) (with_new (ranked_to n X order i) l)
        ])

    pub ranked_skip : (T (X l) → ⊥) → (k : ℕ) → ranked_to n X order i k ≡ ranked_to n X order (i + 1) k
    ranked_skip out k = same_test (ranked_to n X order i k) (ranked_to n X order (i + 1) k) (among_more k) (λ t. elim (among_less k t) [
      | inl s ↦ s
      | inr v ↦ absurd (out (subst (λ j. T (X j)) v.0 v.1))
    ])

  pub ranked_all : (last : ℕ) → length order ≤ last → (k : ℕ) → ranked_to n X order last k ≡ X k
  ranked_all last far k = tests (X k) (free_of n k) (among (take last order) k) (λ fk.
      let at = ordered.all k fk in
      subst (λ xs. T (among xs k)) (sym (take_all last order far)) (subst (λ j. T (among order j)) at.2 (among_at order at.0 at.1))) where
        tests : (a b c : Bool) → (T b → T c) → (a && (not b || c)) ≡ a
        tests false b c h = refl
        tests true true true h = refl
        tests true true false h = absurd (h tt)
        tests true false c h = refl
