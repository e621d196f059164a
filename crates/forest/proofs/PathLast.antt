-- The last join that two points needed, and the free links on the path between them.
use Rattle.std.proofs.Common.{◌≡◌, ℕ, suc, ◌<◌, ◌≤◌, Bool, true, false, T, ◌⊎◌, List, get_or, take, Some, None, Option, MatchOption, sym, refl, ap, ◌∙◌, subst, inl, inr, arith, take-suc}
use Rattle.spanning.specs.Joined.{Graph, Joined, NoRing}
use Rattle.spanning.specs.Joined.Joined.{same}
use Rattle.spanning.specs.Sets.{with_link, without_link}
use Rattle.spanning.proofs.Chains.{join, turn, wider, split, Split}
use Rattle.spanning.proofs.Chains.Split.{around, across, against}
use Rattle.spanning.proofs.Subsets.{or_right, true_or, same_or, with_cases, without_in, Within}
use Rattle.forest.specs.declared.networks.Network.{Network}
use Rattle.forest.specs.declared.paths.Paths.{Paths}
use Rattle.forest.specs.Growing.{kept_of, free_of}
use Rattle.forest.specs.Merges.{among, joins_of, LastJoin}
use Rattle.forest.specs.Paths.{OnPathBetween, LastBetween, LastFree, LastLink, PathsOf}
use Rattle.std.specs.Bool.{then_some}
use Rattle.forest.specs.Readings.{count_of, links_of}
use Rattle.forest.proofs.GrowSteps.{no_use}
use Rattle.forest.proofs.MergeJoins.{unpushed}
use Rattle.forest.proofs.MergePaths.{among_at, place_in_front}

module _ (g : Graph) (js : List ℕ) (X : ℕ → Bool) (links : (k : ℕ) → among js k ≡ X k) (alone : NoRing g X) (x y l : ℕ) (needed : LastJoin g js x y l) where
  abbrev t : ℕ
  t = needed.number

  abbrev A : ℕ → Bool
  A = among (take t js)

  in_tree : (i : ℕ) → Within (among (take i js)) X
  in_tree i k u = let p = place_in_front js i k u in subst (λ j. T (X j)) p.is (subst T (links (get_or js p.at 0)) (among_at js p.at p.within))

  own : T (X l)
  own = subst (λ j. T (X j)) needed.is (subst T (links (get_or js t 0)) (among_at js t needed.within))

  -- a chain of the links up to the last, which goes once along it
  chain : Joined g (with_link A l) x y
  chain = subst (λ j. Joined g (with_link A j) x y) needed.is (unpushed g (take t js) (get_or js t 0) x y (subst (λ ks. Joined g (among ks) x y) (take-suc js t 0 needed.within) needed.then))

  -- the last was not joined before
  fresh : T (A l) → ⊥
  fresh u = needed.not_before (wider g (with_link A l) A (λ k w. elim (with_cases A l k w) [ inl s ↦ s | inr q ↦ subst (λ j. T (A j)) (sym q) u ]) x y chain)

  tight : (a b : ℕ) → Joined g A a b → Joined g (without_link X l) a b
  tight = wider g A (without_link X l) (λ k u. without_in X l k (in_tree t k u) (λ q. fresh (subst (λ j. T (A j)) q u)))

  -- with another chain around it there were a ring
  ring : Joined g (without_link X l) x y → Split g A l x y → ⊥
  ring d (around c) = needed.not_before c
  ring d (across p q) =
      let R = without_link X l in
      alone l own (join g R (g.first l) x (g.second l) (turn g R x (g.first l) (tight x (g.first l) p)) (join g R x y (g.second l) d (turn g R (g.second l) y (tight (g.second l) y q))))
  ring d (against p q) =
      let R = without_link X l in
      alone l own (join g R (g.first l) y (g.second l) (tight (g.first l) y q) (join g R y x (g.second l) (turn g R x y d) (tight x (g.second l) p)))

  pub last_on_path_lem : OnPathBetween g X x y l
  last_on_path_lem = (own, wider g (among (take (suc t) js)) X (in_tree (suc t)) x y needed.then, λ d. ring d (split g A l x y chain))

  -- no link on the path was joined later
  joined_by_then : (f : ℕ) → OnPathBetween g X x y f → T (among (take (suc t) js) f)
  joined_by_then f path = elim (true_or (among (take (suc t) js) f)) [
    | inl u ↦ u
    | inr out ↦ absurd (path.2 (wider g (among (take (suc t) js)) (without_link X f) (λ k u. without_in X f k (in_tree (suc t) k u) (λ q. out (subst (λ j. T (among (take (suc t) js) j)) q u))) x y needed.then))
  ]

  -- a link on the path is the last, or was joined before it
  pub earlier : (f : ℕ) → OnPathBetween g X x y f → (f ≡ l) ⊎ ((s : ℕ) × (s < t) × (get_or js s 0 ≡ f))
  earlier f path =
      let p = place_in_front js (suc t) f (joined_by_then f path) in
      let early = p.early in
      elim (same_or p.at t) [
        | inl q ↦ inl (sym p.is ∙ ap (λ i. get_or js i 0) q ∙ needed.is)
        | inr apart ↦ inr (p.at, before_last p.at t early apart, p.is)
      ] where
        before_last : (s t : ℕ) → s < suc t → (s ≡ t → ⊥) → s < t
        before_last s t less apart = omega arith

-- of a tree whose links were joined by rank
module _ (n : Network) (X : ℕ → Bool) (before : ℕ → ℕ → Bool) (p : Paths) (of : PathsOf n X before p) (x y : ℕ) where
  abbrev js : List ℕ
  js = joins_of p.merges

  -- no free link where there is no last join
  pub none_needed : (x ≡ y) ⊎ (Joined (links_of n) (among js) x y → ⊥) → (f : ℕ) → T (free_of n f) → OnPathBetween (links_of n) X x y f → ⊥
  none_needed (inl q) f loose path = path.2 (subst (λ z. Joined (links_of n) (without_link X f) x z) q (same x))
  none_needed (inr apart) f loose path = apart (wider (links_of n) X (among js) (λ k u. subst T (sym (of.joined.links k)) u) x y path.1)

  module _ (l : ℕ) (needed : LastJoin (links_of n) js x y l) where
    -- a free link on the path is the last join's, or that one is free and ranks after it
    by_rank : (f : ℕ) → T (free_of n f) → OnPathBetween (links_of n) X x y f → (f ≡ l) ⊎ (T (free_of n l) × T (before f l))
    by_rank f loose path = elim (earlier (links_of n) js X of.joined.links of.no_ring x y l needed f path) [
      | inl q ↦ inl q
      | inr v ↦
          let both = of.joined.by_rank v.0 needed.number v.1 needed.within (subst (λ k. T (free_of n k)) (sym v.2) loose) in
          inr (subst (λ k. T (free_of n k)) needed.is both.0, subst (λ k. T (before f k)) needed.is (subst (λ k. T (before k (get_or js needed.number 0))) v.2 both.1))
    ]

    pub last_free : T (free_of n l) → LastBetween (links_of n) (free_of n) before X x y l
    last_free loose = record {
      loose = loose;
      on_path = last_on_path_lem (links_of n) js X of.joined.links of.no_ring x y l needed;
      last = λ f free-f path. elim (by_rank f free-f path) [ inl q ↦ inl q | inr v ↦ inr v.1 ];
    }

    pub none_free : (T (free_of n l) → ⊥) → (f : ℕ) → T (free_of n f) → OnPathBetween (links_of n) X x y f → ⊥
    none_free out f loose path = elim (by_rank f loose path) [ inl q ↦ out (subst (λ k. T (free_of n k)) q loose) | inr v ↦ out v.0 ]

  -- the link of the last join, if it is free
  pub last_if_free : (answers : ℕ → Bool → Type 0) → ((l : ℕ) (b : Bool) → answers l b → b ≡ free_of n l) → (last r : Option ℕ) → MatchOption last ((x ≡ y) ⊎ (Joined (links_of n) (among js) x y → ⊥)) (λ l. LastJoin (links_of n) js x y l)
      → MatchOption last (r ≡ None) (λ l. (b : Bool) × answers l b × (r ≡ then_some b l)) → LastFree (links_of n) (free_of n) before X x y r
  last_if_free answers tells None r apart none = subst (LastFree (links_of n) (free_of n) before X x y) (sym none) (none_needed apart)
  last_if_free answers tells (Some l) r needed kept = subst (LastFree (links_of n) (free_of n) before X x y) (sym kept.2) (by_test kept.0 (tells l kept.0 kept.1)) where
    by_test : (b : Bool) → b ≡ free_of n l → LastFree (links_of n) (free_of n) before X x y (then_some b l)
    by_test true e = last_free l needed (subst T e tt)
    by_test false e = none_free l needed (λ t. subst T (sym e) t)

-- what is told of a link that is not free, of a free one outside the tree, and of a number past the links
module _ (n : Network) (X : ℕ → Bool) (before : ℕ → ℕ → Bool) (k : ℕ) where
  told_not_free : (T (free_of n k) → ⊥) → LastLink n X before k None
  told_not_free out = record { outside = λ loose _. absurd (out loose); inside = λ _. refl; not_free = λ _. refl }

  pub told_outside : (r : Option ℕ) → X k ≡ false → free_of n k ≡ true → LastFree (links_of n) (free_of n) before X ((links_of n).first k) ((links_of n).second k) r → LastLink n X before k r
  told_outside r out loose last = record {
    outside = λ _ _. last;
    inside = λ own. absurd (subst T out own);
    not_free = λ no. absurd (no (subst T (sym loose) tt));
  }

  pub told_past : count_of n ≤ k → LastLink n X before k None
  told_past past = told_not_free (λ loose. subst T (no_use n k past) (or_right (kept_of n k) (free_of n k) loose))
