-- Verdict, tree shown, findings and supports of a narrowing are those below.
use Rattle.std.proofs.Common.{◌≡◌, ℕ, ◌<◌, Bool, not, ◌&&◌, T, Some, None, Option, sym, ap, ◌∙◌, subst, inl, inr, arith}
use mathlib.Core.Path.{fun_ext}
use native.Mathlib.Decide.{dec_lt}
use Rattle.price.specs.Kind.{Operations, Laws}
use Rattle.spanning.specs.Joined.{Joined, Spans, NoRing}
use Rattle.spanning.specs.Sets.{without_link, count}
use Rattle.spanning.proofs.Chains.{wider, grown, spans_own}
use Rattle.spanning.proofs.Few.{label_low}
use Rattle.spanning.proofs.Subsets.{or_left, or_right, or_cases, and_both, and_left, not_from, true_or, same_test, without_in}
use Rattle.table.specs.declared.verdicts.Finding.{Finding}
use Rattle.table.specs.declared.verdicts.Finding.TheVariants as finding
use Rattle.table.specs.declared.verdicts.Verdict.{Verdict}
use Rattle.table.specs.declared.verdicts.Verdict.TheVariants as verdict
use Rattle.table.specs.Findings.{FindingIs, LooseOnPath, LooseRejoins, LastOf, FirstOf, SupportIs, support_of, finding_of}
use Rattle.table.specs.Narrowed.{lowest_of, is_lowest, part_of, between, narrowed, number_below, point_below, lowered, lifted}
use Rattle.table.specs.Narrows.{support_below, verdict_below, Narrows}
use Rattle.table.specs.Ranks.{ends, link_count, kept, free, usable, before}
use Rattle.table.specs.Table.{Table, Lawful}
use Rattle.table.specs.Trees.{LawfulTreeOf, cost_of, OnPathOf, TreeShown, is_spanned, shown}
use Rattle.table.specs.Verdicts.{CutAt, LeastCost, Fitting, VerdictIs, verdict_of}
use Rattle.table.proofs.Finds as finds
use Rattle.table.proofs.Graphs as graphs
use Rattle.table.proofs.Judged.{judged_true, judged_only}
use Rattle.table.proofs.Narrow as narrow
use Rattle.table.proofs.NarrowTrees as trees
use Rattle.table.proofs.Numbers.{count_steps, at_place}
use Rattle.table.proofs.Order.{free_below_lem}
use Rattle.table.proofs.Parts as parts
use Rattle.table.proofs.Shown as shows
use Rattle.table.proofs.Sole.{one_support, one_finding}

-- 1 for a verdict that fits
abbrev tag : {K : Type 0} → Verdict K → ℕ
tag (verdict.Ring l) = 0
tag (verdict.Cut p) = 0
tag (verdict.Over c) = 0
tag (verdict.Fits c) = 1

module _ {K : Type 0} (o : Operations K) (laws : Laws o) (t : Table K) (lawful : Lawful o t) (ring : NoRing (ends t) (kept t)) where
  abbrev N : Table K
  N = narrowed o t

  abbrev b : ℕ → ℕ
  b = number_below t

  abbrev pos : ℕ → ℕ
  pos k = count (between t) k

  lawful_n : Lawful o N
  lawful_n = narrow.narrowed_lawful o laws t lawful ring

  -- numbers above and below
  below_count : (i : ℕ) → T (free N i) → i < link_count N
  below_count i u = free_below_lem N i u

  free_below_it : (i : ℕ) → i < link_count N → T (free t (b i))
  free_below_it i l = and_left (free t (b i)) (not (is_spanned t (kept t) (b i))) (parts.number_at o laws t lawful i l).passes

  number_back : (k : ℕ) → T (between t k) → b (pos k) ≡ k
  number_back k u = parts.number_of_place o laws t lawful k u

  place_back : (i : ℕ) → i < link_count N → pos (b i) ≡ i
  place_back i l = (parts.number_at o laws t lawful i l).place

  place_free : (k : ℕ) → T (between t k) → T (free N (pos k))
  place_free k u = narrow.free_above o laws t lawful (pos k) (parts.place_below o laws t lawful k u)

  -- a lawful tree below, and its paths seen above
  module _ (Y : ℕ → Bool) (tree : LawfulTreeOf t Y) where
    abbrev U : ℕ → Bool
    U = lifted t Y

    path_down : (e f : ℕ) → e < link_count N → f < link_count N → OnPathOf N U e f → OnPathOf t Y (b e) (b f)
    path_down e f le lf p = (
      p.0,
      wider (ends t) (lowered t U) Y (trees.down_up o laws t lawful ring Y tree) ((ends t).first (b e)) ((ends t).second (b e)) (parts.spans_down o laws t lawful U e le p.1),
      (λ c. p.2 (parts.spans_up o laws t lawful (without_link U f) e le (wider (ends t) (without_link Y (b f)) (lowered t (without_link U f)) (λ k v. trees.up_down_less o laws t lawful ring Y tree f k lf v) ((ends t).first (b e)) ((ends t).second (b e)) c))),
    )

    path_up : (e f : ℕ) → e < link_count N → f < link_count N → OnPathOf t Y (b e) (b f) → OnPathOf N U e f
    path_up e f le lf p = (
      p.0,
      parts.spans_up o laws t lawful U e le (wider (ends t) Y (lowered t U) (trees.up_down o laws t lawful ring Y tree) ((ends t).first (b e)) ((ends t).second (b e)) p.1),
      (λ c. p.2 (wider (ends t) (lowered t (without_link U f)) (without_link Y (b f)) (λ k v. trees.down_up_less o laws t lawful ring Y tree f k lf v) ((ends t).first (b e)) ((ends t).second (b e)) (parts.spans_down o laws t lawful (without_link U f) e le c))),
    )

    loose_path_down : (e f : ℕ) → e < link_count N → LooseOnPath o N U e f → LooseOnPath o t Y (b e) (b f)
    loose_path_down e f le p = let lf = below_count f p.0 in (free_below_it f lf, path_down e f le lf p.1)

    loose_path_up : (e k : ℕ) → e < link_count N → LooseOnPath o t Y (b e) k → T (between t k) × LooseOnPath o N U e (pos k)
    loose_path_up e k le p =
        let bk = trees.loose_between o laws t lawful ring Y tree k p.1.0 p.0 in
        (bk, (place_free k bk, path_up e (pos k) le (parts.place_below o laws t lawful k bk) (subst (OnPathOf t Y (b e)) (sym (number_back k bk)) p.1)))

    rejoins_down : (e f : ℕ) → e < link_count N → LooseRejoins o N U e f → LooseRejoins o t Y (b e) (b f)
    rejoins_down e f le p =
        let lf = below_count f p.0 in
        (free_below_it f lf, p.1, (λ c. p.2 (parts.spans_up o laws t lawful (without_link U e) f lf (wider (ends t) (without_link Y (b e)) (lowered t (without_link U e)) (λ k v. trees.up_down_less o laws t lawful ring Y tree e k le v) ((ends t).first (b f)) ((ends t).second (b f)) c))))

    kept_without : (e : ℕ) → e < link_count N → (k : ℕ) → T (kept t k) → T (without_link Y (b e) k)
    kept_without e le k own = without_in Y (b e) k (tree.holds_kept k own) (λ q. (graphs.ranked o laws t lawful).apart k own (subst (λ j. T (free t j)) (sym q) (free_below_it e le)))

    rejoins_up : (e k : ℕ) → e < link_count N → LooseRejoins o t Y (b e) k → T (between t k) × LooseRejoins o N U e (pos k)
    rejoins_up e k le p =
        let bk : T (between t k) = and_both (free t k) (not (is_spanned t (kept t) k)) p.0 (not_from (is_spanned t (kept t) k) (λ s. p.2 (wider (ends t) (kept t) (without_link Y (b e)) (kept_without e le) ((ends t).first k) ((ends t).second k) (graphs.from_test o laws t lawful (kept t) k s)))) in
        let lk = parts.place_below o laws t lawful k bk in
        (bk, (place_free k bk, (λ u. p.1 (subst (λ j. T (Y j)) (number_back k bk) u)), (λ c. p.2 (subst (Spans (ends t) (without_link Y (b e))) (number_back k bk) (wider (ends t) (lowered t (without_link U e)) (without_link Y (b e)) (λ j v. trees.down_up_less o laws t lawful ring Y tree e j le v) ((ends t).first (b (pos k))) ((ends t).second (b (pos k))) (parts.spans_down o laws t lawful (without_link U e) (pos k) lk c))))))

    last_down : (e l : ℕ) → e < link_count N → LastOf o N U e l → LastOf o t Y (b e) (b l)
    last_down e l le x = record {
      on_path = loose_path_down e l le x.on_path;
      last = λ k p.
          let up = loose_path_up e k le p in
          let back = number_back k up.0 in
          elim (x.last (pos k) up.1) [
            | inl q ↦ inl (sym back ∙ ap b q)
            | inr r ↦ inr (subst (λ j. T (before o t j (b l))) back (subst T (narrow.rank_above o laws t lawful (pos k) l (parts.place_below o laws t lawful k up.0) (below_count l x.on_path.0)) r))
          ];
    }

    first_down : (e l : ℕ) → e < link_count N → FirstOf o N U e l → FirstOf o t Y (b e) (b l)
    first_down e l le x = record {
      rejoins = rejoins_down e l le x.rejoins;
      first = λ k p.
          let up = rejoins_up e k le p in
          let back = number_back k up.0 in
          elim (x.first (pos k) up.1) [
            | inl q ↦ inl (sym back ∙ ap b q)
            | inr r ↦ inr (subst (λ j. T (before o t (b l) j)) back (subst T (narrow.rank_above o laws t lawful l (pos k) (below_count l x.rejoins.0) (parts.place_below o laws t lawful k up.0)) r))
          ];
    }

    pub support_down : (e : ℕ) → e < link_count N → (r : Option ℕ) → SupportIs o N U e r → SupportIs o t Y (b e) (support_below t r)
    support_down e le (Some l) s = (free_below_it e le, (λ out. last_down e l le (s.1 out)), (λ own. first_down e l le (s.2 own)))
    support_down e le None s = λ f.
        let fe = narrow.free_above o laws t lawful e le in
        ((λ out k p. (s fe).0 out (pos k) (loose_path_up e k le p).1), (λ own k p. (s fe).1 own (pos k) (rejoins_up e k le p).1))

    -- a free link inside one part has no support
    pub no_support : (k : ℕ) → T (free t k) → (T (between t k) → ⊥) → SupportIs o t Y k None
    no_support k fk inside = λ f. (
      (λ out j p.
          let own-j = trees.loose_between o laws t lawful ring Y tree j p.1.0 p.0 in
          let kept-joins : Spans (ends t) (kept t) k = elim (true_or (is_spanned t (kept t) k)) [ inl s ↦ graphs.from_test o laws t lawful (kept t) k s | inr n ↦ absurd (inside (and_both (free t k) (not (is_spanned t (kept t) k)) fk (not_from (is_spanned t (kept t) k) n))) ] in
          p.1.2 (wider (ends t) (kept t) (without_link Y j) (λ i own. without_in Y j i (tree.holds_kept i own) (λ q. (graphs.ranked o laws t lawful).apart i own (subst (λ h. T (free t h)) (sym q) p.0))) ((ends t).first k) ((ends t).second k) kept-joins)),
      (λ own j p. inside (trees.loose_between o laws t lawful ring Y tree k own fk)),
    )

    pub shown_up : TreeShown o t Y → TreeShown o N U
    shown_up s = record {
      lawful = trees.tree_above_lem o laws t lawful ring Y tree;
      ranks = λ h f fh out ff path.
          let lh = below_count h fh in
          let lf = below_count f ff in
          subst T (sym (narrow.rank_above o laws t lawful f h lf lh)) (s.ranks (b h) (b f) (free_below_it h lh) out (free_below_it f lf) (path_down h f lh lf path));
    }

    cost_up : cost_of o N U ≡ cost_of o t Y
    cost_up = trees.costs_below o laws t lawful ring U ∙ ap (cost_of o t) (fun_ext (λ k. same_test (lowered t U k) (Y k) (trees.down_up o laws t lawful ring Y tree k) (trees.up_down o laws t lawful ring Y tree k)))

    pub round : (k : ℕ) → lowered t U k ≡ Y k
    round k = same_test (lowered t U k) (Y k) (trees.down_up o laws t lawful ring Y tree k) (trees.up_down o laws t lawful ring Y tree k)

    is_shown_lem : TreeShown o t (shown o t)
    is_shown_lem = shows.is_shown_lem o laws t lawful ring (graphs.all_joined_lem o laws t lawful Y tree)

  -- the tree shown, where lawful trees exist
  module _ (Y : ℕ → Bool) (tree : LawfulTreeOf t Y) where
    abbrev G : ℕ → Bool
    G = shown o t

    tree_g : LawfulTreeOf t G
    tree_g = (is_shown_lem Y tree).lawful

    lifted_g : lifted t G ≡ shown o N
    lifted_g = fun_ext (λ i. shows.sole o laws N lawful_n (lifted t G) (shown_up G tree_g (is_shown_lem Y tree)) i)

    pub shown_below : (k : ℕ) → shown o t k ≡ lowered t (shown o N) k
    shown_below k = sym (round G tree_g k) ∙ ap (λ X. lowered t X k) lifted_g

    pub support_below_lem : (i : ℕ) → i < link_count N → support_of o t (b i) ≡ support_below t (support_of o N i)
    support_below_lem i l = one_support o laws t lawful G (b i) (support_of o t (b i)) (support_below t (support_of o N i)) (finds.support_is o laws t lawful (b i)) (support_down G tree_g i l (support_of o N i) (subst (λ X. SupportIs o N X i (support_of o N i)) (sym lifted_g) (finds.support_is o laws N lawful_n i)))

    pub support_inside : (k : ℕ) → T (free t k) → (T (between t k) → ⊥) → support_of o t k ≡ None
    support_inside k fk inside = one_support o laws t lawful G k (support_of o t k) None (finds.support_is o laws t lawful k) (no_support G tree_g k fk inside)

    cost_g : cost_of o N (shown o N) ≡ cost_of o t G
    cost_g = ap (cost_of o N) (sym lifted_g) ∙ cost_up G tree_g

  -- fitting trees
  fitting_up : (budget : K) (Y : ℕ → Bool) → Fitting o t budget Y → Fitting o N budget (lifted t Y)
  fitting_up budget Y f = record { lawful = trees.tree_above_lem o laws t lawful ring Y f.lawful; within = subst (λ x. T (o.not_above x budget)) (sym (cost_up Y f.lawful)) f.within }

  fitting_down : (budget : K) (X : ℕ → Bool) → Fitting o N budget X → Fitting o t budget (lowered t X)
  fitting_down budget X f = record { lawful = trees.tree_below_lem o laws t lawful ring X f.lawful; within = subst (λ x. T (o.not_above x budget)) (trees.costs_below o laws t lawful ring X) f.within }

  lowered_out : (X : ℕ → Bool) (i : ℕ) → i < link_count N → (T (X i) → ⊥) → T (lowered t X (b i)) → ⊥
  lowered_out X i l out u = elim (parts.lower_cases o laws t lawful X (b i) u) [
    | inl own ↦ (graphs.ranked o laws t lawful).apart (b i) own (free_below_it i l)
    | inr v ↦ out (subst (λ j. T (X j)) (place_back i l) v.1)
  ]

  finding_down : (budget : K) (i : ℕ) → i < link_count N → (f : Finding) → FindingIs o N budget i f → FindingIs o t budget (b i) f
  finding_down budget i l finding.Out h = λ Y fit own. h (lifted t Y) (fitting_up budget Y fit) own
  finding_down budget i l finding.Forced h = λ Y fit. h (lifted t Y) (fitting_up budget Y fit)
  finding_down budget i l finding.Open h = (
    (lowered t h.0.0, fitting_down budget h.0.0 h.0.1, parts.lower_at o laws t lawful h.0.0 i l h.0.2),
    (lowered t h.1.0, fitting_down budget h.1.0 h.1.1, lowered_out h.1.0 i l h.1.2),
  )

  -- the verdict
  spanned_above : (k : ℕ) → T (usable t k) → Spans (ends t) (lowered t (usable N)) k
  spanned_above k u = elim (or_cases (kept t k) (free t k) u) [
    | inl own ↦ spans_own (ends t) (lowered t (usable N)) k (or_left (kept t k) (between t k && usable N (pos k)) own)
    | inr fk ↦ elim (true_or (is_spanned t (kept t) k)) [
      | inl s ↦ wider (ends t) (kept t) (lowered t (usable N)) (λ j own. or_left (kept t j) (between t j && usable N (pos j)) own) ((ends t).first k) ((ends t).second k) (graphs.from_test o laws t lawful (kept t) k s)
      | inr n ↦
          let bk = and_both (free t k) (not (is_spanned t (kept t) k)) fk (not_from (is_spanned t (kept t) k) n) in
          spans_own (ends t) (lowered t (usable N)) k (parts.lower_in o laws t lawful (usable N) k bk (or_right (kept N (pos k)) (free N (pos k)) (place_free k bk)))
    ]
  ]

  usable_up : (x : ℕ) → Joined (ends t) (usable t) 0 x → Joined (ends N) (usable N) 0 (part_of t x)
  usable_up x c = subst (λ p. Joined (ends N) (usable N) p (part_of t x)) (parts.part_0 o laws t lawful) (parts.chain_up o laws t lawful (usable N) 0 x (grown (ends t) (usable t) (lowered t (usable N)) spanned_above 0 x c))

  usable_down : (x : ℕ) → Joined (ends N) (usable N) 0 (part_of t x) → Joined (ends t) (usable t) 0 x
  usable_down x c = wider (ends t) (lowered t (usable N)) (usable t) (λ k u. elim (parts.lower_cases o laws t lawful (usable N) k u) [
    | inl own ↦ or_left (kept t k) (free t k) own
    | inr v ↦ or_right (kept t k) (free t k) (and_left (free t k) (not (is_spanned t (kept t) k)) v.0)
  ]) 0 x (parts.chain_down o laws t lawful (usable N) 0 x (subst (λ p. Joined (ends N) (usable N) p (part_of t x)) (sym (parts.part_0 o laws t lawful)) c))

  cut_below : (p : ℕ) → CutAt N p → CutAt t (point_below t p)
  cut_below p at =
      let x = parts.point_of o laws t lawful p at.below in
      record {
        below = x.below;
        apart = λ c. at.apart (subst (Joined (ends N) (usable N) 0) x.part (usable_up (point_below t p) c));
        lowest = λ y less.
            let low = label_low (ends t) (link_count t) (kept t) y in
            let steps = count_steps (is_lowest t) (lowest_of t y) (point_below t p) (omega arith) (parts.own_lowest o laws t lawful y) in
            let same : count (is_lowest t) (point_below t p) ≡ p = ap (count (is_lowest t)) (sym x.own) ∙ x.part in
            usable_down y (at.lowest (part_of t y) (omega arith));
      }

  least_below : (c : K) → LeastCost o N c → LeastCost o t c
  least_below c least =
      let Y = lowered t least.tree in
      let tree = trees.tree_below_lem o laws t lawful ring least.tree least.is_shown.lawful in
      record {
        tree = shown o t;
        is_shown = is_shown_lem Y tree;
        costs = sym (cost_g Y tree) ∙ ap (cost_of o N) (sym (fun_ext (shows.sole o laws N lawful_n least.tree least.is_shown))) ∙ least.costs;
        least = λ X lx. subst (λ v. T (o.not_above c v)) (cost_up X lx) (least.least (lifted t X) (trees.tree_above_lem o laws t lawful ring X lx));
      }

  verdict_down : (budget : K) (v : Verdict K) → VerdictIs o N budget v → VerdictIs o t budget (verdict_below t v)
  verdict_down budget (verdict.Ring l) h = absurd (narrow.none_kept o laws t lawful l h.0.is_kept)
  verdict_down budget (verdict.Cut p) h = (ring, cut_below p h.1, (λ Y tree. h.2 (lifted t Y) (trees.tree_above_lem o laws t lawful ring Y tree)))
  verdict_down budget (verdict.Over c) h = (least_below c h.0, (λ Y fit. h.1 (lifted t Y) (fitting_up budget Y fit)))
  verdict_down budget (verdict.Fits c) h = (least_below c h.0, h.1)

  module _ (budget : K) (limited : T (o.budget budget)) where
    pub verdict_below_lem : verdict_of o t budget ≡ verdict_below t (verdict_of o N budget)
    verdict_below_lem = sym (judged_only o laws t lawful budget limited (verdict_below t (verdict_of o N budget)) (verdict_down budget (verdict_of o N budget) (judged_true o laws N lawful_n budget limited)))

    -- findings, where the least cost is within the budget
    module _ (c : K) (fits : verdict_of o t budget ≡ verdict.Fits c) where
      fits_n_by : (v : Verdict K) → verdict_below t v ≡ verdict.Fits c → v ≡ verdict.Fits c
      fits_n_by (verdict.Ring l) e = absurd (let z : ◌≡◌ {A = ℕ} 0 1 = ap tag e in omega arith)
      fits_n_by (verdict.Cut p) e = absurd (let z : ◌≡◌ {A = ℕ} 0 1 = ap tag e in omega arith)
      fits_n_by (verdict.Over d) e = absurd (let z : ◌≡◌ {A = ℕ} 0 1 = ap tag e in omega arith)
      fits_n_by (verdict.Fits d) e = e

      fits_n : verdict_of o N budget ≡ verdict.Fits c
      fits_n = fits_n_by (verdict_of o N budget) (sym verdict_below_lem ∙ fits)

      least_t : LeastCost o t c × T (o.not_above c budget)
      least_t = subst (VerdictIs o t budget) fits (judged_true o laws t lawful budget limited)

      fitting_t : Fitting o t budget least_t.0.tree
      fitting_t = record { lawful = least_t.0.is_shown.lawful; within = subst (λ v. T (o.not_above v budget)) (sym least_t.0.costs) least_t.1 }

      pub finding_below : (i : ℕ) → i < link_count N → finding_of o t budget (b i) ≡ finding_of o N budget i
      finding_below i l = one_finding o laws t lawful budget (b i) least_t.0.tree fitting_t (finding_of o t budget (b i)) (finding_of o N budget i) (finds.finds o laws t lawful budget c limited fits (b i)).finding (finding_down budget i l (finding_of o N budget i) (finds.finds o laws N lawful_n budget c limited fits_n i).finding)

      pub finding_inside : (k : ℕ) → T (free t k) → (T (between t k) → ⊥) → finding_of o t budget k ≡ finding.Out
      finding_inside k fk inside = one_finding o laws t lawful budget k least_t.0.tree fitting_t (finding_of o t budget k) finding.Out (finds.finds o laws t lawful budget c limited fits k).finding (λ Y fit own. inside (trees.loose_between o laws t lawful ring Y fit.lawful k own fk))

  -- a tree above, seen below and above again
  back_again_lem : (X : ℕ → Bool) → LawfulTreeOf N X → (i : ℕ) → lifted t (lowered t X) i ≡ X i
  back_again_lem X tree i = elim (dec_lt i (link_count N)) [
    | yes l ↦ same_test (lowered t X (b i)) (X i) (λ u. elim (true_or (X i)) [ inl v ↦ v | inr out ↦ absurd (lowered_out X i l out u) ]) (λ u. parts.lower_at o laws t lawful X i l u)
    | no l ↦ same_test (lowered t X (b i)) (X i) (λ u. absurd (l (trees.lifted_below o laws t lawful ring (lowered t X) (trees.tree_below_lem o laws t lawful ring X tree) i u))) (λ u. absurd (l (above_count X tree i u)))
  ] where
    above_count : (X : ℕ → Bool) → LawfulTreeOf N X → (i : ℕ) → T (X i) → i < link_count N
    above_count X tree i u = elim (or_cases (kept N i) (free N i) (tree.no_barred i u)) [ inl own ↦ absurd (narrow.none_kept o laws t lawful i own) | inr f ↦ below_count i f ]

  lowest_point_lem : (x : ℕ) → x < t.points → point_below t (part_of t x) ≡ lowest_of t x
  lowest_point_lem x l =
      let low = label_low (ends t) (link_count t) (kept t) x in
      at_place (is_lowest t) t.points t.points (lowest_of t x) (omega arith) (parts.own_lowest o laws t lawful x)

  pub narrows : Narrows o t
  narrows = record {
    lawful = lawful_n;
    all_free = narrow.free_above o laws t lawful;
    ranks = narrow.rank_above o laws t lawful;
    joined_above = parts.chain_up o laws t lawful;
    joined_below = parts.chain_down o laws t lawful;
    trees_below = trees.tree_below_lem o laws t lawful ring;
    trees_above = trees.tree_above_lem o laws t lawful ring;
    round_trip = round;
    back_again = back_again_lem;
    numbered = λ k u. (parts.place_below o laws t lawful k u, number_back k u);
    part_below = parts.part_below_lem o laws t lawful;
    lowest_point = lowest_point_lem;
    costs = trees.costs_below o laws t lawful ring;
    verdict_same = verdict_below_lem;
    tree_shown = shown_below;
    supports = support_below_lem;
    findings = λ budget c limited. finding_below budget limited c;
    inside = support_inside;
    inside_out = λ budget c limited. finding_inside budget limited c;
  }
