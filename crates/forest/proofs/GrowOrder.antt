-- A union-find over the free links in the order of their ranks.
use Rattle.std.proofs.Common.{◌≡◌, ℕ, zero, suc, ◌+◌, ◌<◌, Bool, true, false, not, ◌&&◌, ◌||◌, T, eqb, ltb, List, [], ◌∷◌, length, get_or, take, set, Some, None, Option, sym, refl, ap, ◌∙◌, subst, inl, inr, arith, eqb→eq, lt→ltb}
use native.Mathlib.Decide.{dec_lt}
use lib.Dec.{eqb_refl}
use Rattle.std.proofs.lemmas.List.{take_more, take_all}
use Rattle.spanning.specs.Closure.{share_label}
use Rattle.spanning.specs.Roots.{root_of, Represents}
use Rattle.spanning.specs.Sets.{with_link}
use Rattle.spanning.specs.Trees.{prior}
use Rattle.spanning.proofs.Subsets.{or_left, or_right, or_cases, and_both, and_left, and_right, not_from, not_to, same_or, same_test, with_old, with_new, with_cases, Within}
use Rattle.table.specs.Verdicts.{lowest}
use Rattle.table.proofs.Judged.{Found, search_lowest}
use Rattle.table.proofs.Judged.Found.{some, none}
use Rattle.forest.specs.declared.growing.Grower.{Grower}
use Rattle.forest.specs.declared.networks.Network.{Network}
use Rattle.forest.specs.declared.networks.ends.Ends.{Ends}
use Rattle.forest.specs.Growing.{kept_of, free_of, usable_of, spanned_by, kept_below, is_cut, tree_of, joined_to, FreeInOrder, GrownTo, KeptTo}
use Rattle.forest.specs.Merges.{among}
use Rattle.spanning.specs.Sets.{held}
use Rattle.forest.specs.Networks.{link_at}
use Rattle.forest.specs.Readings.{count_of, links_of}
use Rattle.forest.proofs.GrowSteps.{Joins, is_true, is_false, represents_same, represents_joined, first_in, second_in, kept_in, same_roots}
use Rattle.forest.proofs.MergeJoins.{among_push}
use Rattle.forest.proofs.MergePaths.{among_at, place_in_front}
use Rattle.forest.proofs.NetworkLists.{written, unwritten}

-- one more of a list
pub among_next : (xs : List ℕ) (i k : ℕ) → i < length xs → among (take (i + 1) xs) k ≡ with_link (among (take i xs)) (get_or xs i 0) k
among_next xs i k l = ap (λ ys. among ys k) (take_more xs i 0 l) ∙ among_push (take i xs) (get_or xs i 0) k

module _ (n : Network) (order : List ℕ) (before : ℕ → ℕ → Bool) (listed : FreeInOrder n before order) where
  -- what ranks before a link of the order is what stands before it
  module _ (i : ℕ) (within : i < length order) where
    abbrev l : ℕ
    l = get_or order i 0

    free_l : T (free_of n l)
    free_l = listed.ordered.each i within

    prior_to : Within (prior (spanned_by n) (kept_of n) (free_of n) before l) (joined_to n order i)
    prior_to k t = elim (or_cases (kept_of n k) (free_of n k && before k l) t) [
      | inl own ↦ or_left (kept_of n k) (among (take i order) k) own
      | inr v ↦
          let fk = and_left (free_of n k) (before k l) v in
          let bk = and_right (free_of n k) (before k l) v in
          let at = listed.ordered.all k fk in
          or_right (kept_of n k) (among (take i order) k) (elim (dec_lt at.0 i) [
            | yes less ↦ subst (λ j. T (among (take i order) j)) at.2 (early at.0 less)
            | no less ↦ absurd (elim (same_or at.0 i) [
              | inl q ↦ listed.ranked.strict l free_l (subst (λ j. T (before j l)) (sym at.2 ∙ ap (λ j. get_or order j 0) q) bk)
              | inr apart ↦ listed.ranked.strict l free_l (listed.ranked.transitive l k l free_l fk free_l (subst (λ j. T (before l j)) at.2 (listed.ordered.sorted i at.0 (omega arith) at.1)) bk)
            ])
          ])
    ] where
      early : (j : ℕ) → j < i → T (among (take i order) (get_or order j 0))
      early j less = elim (same_or i 0) [
        | inl q ↦ absurd (omega arith)
        | inr some-i ↦ front order i j less (omega arith)
      ] where
        front : (xs : List ℕ) (m h : ℕ) → h < m → h < length xs → T (among (take m xs) (get_or xs h 0))
        front [] m h p q = absurd (omega arith)
        front (x ∷ xs) zero h p q = absurd (omega arith)
        front (x ∷ xs) (suc m) zero p q = or_left (eqb x x) (among (take m xs) x) (eqb_refl x)
        front (x ∷ xs) (suc m) (suc h) p q = or_right (eqb (get_or xs h 0) x) (among (take m xs) (get_or xs h 0)) (front xs m h (omega arith) (omega arith))

    to_prior : Within (joined_to n order i) (prior (spanned_by n) (kept_of n) (free_of n) before l)
    to_prior k t = elim (or_cases (kept_of n k) (among (take i order) k) t) [
      | inl own ↦ or_left (kept_of n k) (free_of n k && before k l) own
      | inr v ↦
          let p = place_in_front order i k v in
          or_right (kept_of n k) (free_of n k && before k l) (and_both (free_of n k) (before k l) (subst (λ j. T (free_of n j)) p.is (listed.ordered.each p.at p.within)) (subst (λ j. T (before j l)) p.is (listed.ordered.sorted p.at i p.early within)))
    ]

    -- so the link is in the tree exactly if its ends have two roots
    module _ (ps : List ℕ) (long : length ps ≡ 1024) (rep : Represents ps (links_of n) (joined_to n order i)) where
      pub fresh_is : not (eqb (root_of ps ((links_of n).first l)) (root_of ps ((links_of n).second l))) ≡ tree_of n before l
      fresh_is =
          ap not (same_roots ps n (prior (spanned_by n) (kept_of n) (free_of n) before l) long (represents_same ps (links_of n) (joined_to n order i) (prior (spanned_by n) (kept_of n) (free_of n) before l) to_prior prior_to rep) ((links_of n).first l) ((links_of n).second l) (first_in n l) (second_in n l))
          ∙ sym (loose (kept_of n l) (free_of n l) (not (spanned_by n (prior (spanned_by n) (kept_of n) (free_of n) before l) l)) (λ own. listed.ranked.apart l own free_l) free_l) where
            loose : (a b c : Bool) → (T a → ⊥) → T b → (a || (b && c)) ≡ c
            loose true b c na tb = absurd (na tt)
            loose false true c na tb = refl
            loose false false c na tb = absurd tb

      next_set : (k : ℕ) → T (with_link (joined_to n order i) l k) → T (joined_to n order (i + 1) k)
      next_set k t = elim (with_cases (joined_to n order i) l k t) [
        | inl s ↦ elim (or_cases (kept_of n k) (among (take i order) k) s) [
          | inl own ↦ or_left (kept_of n k) (among (take (i + 1) order) k) own
          | inr v ↦ or_right (kept_of n k) (among (take (i + 1) order) k) (subst T (sym (among_next order i k within)) (with_old (among (take i order)) l k v))
        ]
        | inr q ↦ or_right (kept_of n k) (among (take (i + 1) order) k) (subst T (sym (among_next order i k within)) (subst (λ j. T (with_link (among (take i order)) l j)) (sym q) (with_new (among (take i order)) l)))
      ]

      set_next : (k : ℕ) → T (joined_to n order (i + 1) k) → T (with_link (joined_to n order i) l k)
      set_next k t = elim (or_cases (kept_of n k) (among (take (i + 1) order) k) t) [
        | inl own ↦ with_old (joined_to n order i) l k (or_left (kept_of n k) (among (take i order) k) own)
        | inr v ↦ elim (with_cases (among (take i order)) l k (subst T (among_next order i k within) v)) [
          | inl s ↦ with_old (joined_to n order i) l k (or_right (kept_of n k) (among (take i order) k) s)
          | inr q ↦ subst (λ j. T (with_link (joined_to n order i) l j)) (sym q) (with_new (joined_to n order i) l)
        ]
      ]

  bit_at : (tree : List Bool) (i k : ℕ) → i < length order → (held tree k ≡ (kept_of n k || (among (take i order) k && tree_of n before k))) → (k ≡ get_or order i 0 → ⊥) → held tree k ≡ (kept_of n k || (among (take (i + 1) order) k && tree_of n before k))
  bit_at tree i k within e apart = e ∙ ap (λ b. kept_of n k || (b && tree_of n before k)) (same_test (among (take i order) k) (among (take (i + 1) order) k) (λ u. subst T (sym (among_next order i k within)) (with_old (among (take i order)) (get_or order i 0) k u)) (λ u. elim (with_cases (among (take i order)) (get_or order i 0) k (subst T (among_next order i k within) u)) [ inl s ↦ s | inr q ↦ absurd (apart q) ]))

  here_among : (i : ℕ) → i < length order → T (among (take (i + 1) order) (get_or order i 0))
  here_among i within = subst T (sym (among_next order i (get_or order i 0) within)) (with_new (among (take i order)) (get_or order i 0))

  module _ (i : ℕ) (g h : Grower) (link : Ends) (within : i < length order) (at : link ≡ link_at n.links.items (get_or order i 0)) (joined : Joins g.parts.parents h.parts.parents link.first link.second) (so_far : GrownTo n order before i g) where
    abbrev next : ℕ
    next = get_or order i 0

    abbrev fresh : Bool
    fresh = not (eqb (root_of g.parts.parents link.first) (root_of g.parts.parents link.second))

    fresh_in_tree : fresh ≡ tree_of n before next
    fresh_in_tree = ap (λ l. not (eqb (root_of g.parts.parents l.first) (root_of g.parts.parents l.second))) at ∙ fresh_is i within g.parts.parents g.parts.long so_far.parts

    next_parts : Represents h.parts.parents (links_of n) (joined_to n order (i + 1))
    next_parts =
        represents_same h.parts.parents (links_of n) (with_link (joined_to n order i) next) (joined_to n order (i + 1)) (next_set i within g.parts.parents g.parts.long so_far.parts) (set_next i within g.parts.parents g.parts.long so_far.parts)
        (represents_joined n (joined_to n order i) next link g.parts.parents h.parts.parents at joined so_far.parts)

    -- a link that joined two parts is put into the tree
    pub grown_in : next < length g.tree → T fresh → h.tree ≡ set g.tree next true → GrownTo n order before (i + 1) h
    grown_in room joins marked = record {
      parts = next_parts;
      bits = λ k. ap (λ bits. held bits k) marked ∙ (elim (same_or k next) [
        | inl q ↦ written g.tree next true false room k q ∙ sym (is_true (kept_of n k || (among (take (i + 1) order) k && tree_of n before k)) (or_right (kept_of n k) (among (take (i + 1) order) k && tree_of n before k) (subst (λ j. T (among (take (i + 1) order) j && tree_of n before j)) (sym q) (and_both (among (take (i + 1) order) next) (tree_of n before next) (here_among i within) (subst T fresh_in_tree joins)))))
        | inr apart ↦ unwritten g.tree next true false room k apart ∙ bit_at g.tree i k within (so_far.bits k) apart
      ]);
    }

    -- and another is not
    pub grown_out : (T fresh → ⊥) → h.tree ≡ g.tree → GrownTo n order before (i + 1) h
    grown_out stale same = record {
      parts = next_parts;
      bits = λ k. ap (λ bits. held bits k) same ∙ (elim (same_or k next) [
        | inl q ↦
            let out : tree_of n before next ≡ false = sym fresh_in_tree ∙ is_false fresh stale in
            let out-k : tree_of n before k ≡ false = ap (tree_of n before) q ∙ out in
            so_far.bits k ∙ ap (λ b. kept_of n k || (among (take i order) k && b)) out-k ∙ ap (λ b. kept_of n k || b) (and_no (among (take i order) k) (among (take (i + 1) order) k)) ∙ sym (ap (λ b. kept_of n k || (among (take (i + 1) order) k && b)) out-k)
        | inr apart ↦ bit_at g.tree i k within (so_far.bits k) apart
      ]);
    } where
      and_no : (a b : Bool) → (a && false) ≡ (b && false)
      and_no true true = refl
      and_no true false = refl
      and_no false true = refl
      and_no false false = refl

  -- at the end
  all_free_lem : (k : ℕ) → among (take (length order) order) k ≡ free_of n k
  all_free_lem k = same_test (among (take (length order) order) k) (free_of n k)
      (λ u. let p = place_in_front order (length order) k u in subst (λ j. T (free_of n j)) p.is (listed.ordered.each p.at p.within))
      (λ u. let at = listed.ordered.all k u in subst (λ xs. T (among xs k)) (sym (take_all (length order) order (omega arith))) (subst (λ j. T (among order j)) at.2 (among_at order at.0 at.1)))

  pub grown_tree : (g : Grower) → GrownTo n order before (length order) g → (k : ℕ) → held g.tree k ≡ tree_of n before k
  grown_tree g end k = end.bits k ∙ ap (λ b. kept_of n k || (b && tree_of n before k)) (all_free_lem k) ∙ absorb (kept_of n k) (free_of n k) (not (spanned_by n (prior (spanned_by n) (kept_of n) (free_of n) before k) k)) where
    absorb : (a b c : Bool) → (a || (b && (a || (b && c)))) ≡ (a || (b && c))
    absorb true b c = refl
    absorb false true c = refl
    absorb false false c = refl

  pub grown_parts : (g : Grower) → GrownTo n order before (length order) g → Represents g.parts.parents (links_of n) (usable_of n)
  grown_parts g end = represents_same g.parts.parents (links_of n) (joined_to n order (length order)) (usable_of n) (λ k u. subst T (ap (λ b. kept_of n k || b) (all_free_lem k)) u) (λ k u. subst T (sym (ap (λ b. kept_of n k || b) (all_free_lem k))) u) end.parts

-- from the kept links on
pub grown_none : (n : Network) (order : List ℕ) (before : ℕ → ℕ → Bool) (g : Grower) → KeptTo n (count_of n) g → GrownTo n order before 0 g
grown_none n order before g end = record {
  parts = represents_same g.parts.parents (links_of n) (kept_below n (count_of n)) (joined_to n order 0) (λ k u. or_left (kept_of n k) (among (take 0 order) k) (and_left (kept_of n k) (ltb k (count_of n)) u)) (λ k u. elim (or_cases (kept_of n k) (among (take 0 order) k) u) [ inl own ↦ and_both (kept_of n k) (ltb k (count_of n)) own (lt→ltb k (count_of n) (kept_in n k own)) | inr v ↦ absurd v ]) end.parts;
  bits = λ k. end.bits k ∙ both (kept_of n k) (ltb k (count_of n)) (λ own. lt→ltb k (count_of n) (kept_in n k own));
} where
  both : (a b : Bool) → (T a → T b) → (a && b) ≡ (a || false)
  both true true h = refl
  both true false h = absurd (h tt)
  both false b h = refl

-- the lowest number that passes a test
pub lowest_is : (m : ℕ) (P : ℕ → Bool) (k : ℕ) → k < m → T (P k) → ((j : ℕ) → j < k → T (P j) → ⊥) → Some k ≡ lowest m P
lowest_is m P k l t least = by (lowest m P) (search_lowest m P) where
  by : (r : Option ℕ) → Found m P r → Some k ≡ r
  by r (some j lj tj leastj) = elim (dec_lt k j) [
    | yes h ↦ absurd (leastj k h t)
    | no h ↦ elim (dec_lt j k) [ yes h' ↦ absurd (least j h' tj) | no h' ↦ ap Some (omega arith) ]
  ]
  by r (none h) = absurd (h k l t)

pub lowest_none : (m : ℕ) (P : ℕ → Bool) → ((k : ℕ) → k < m → T (P k) → ⊥) → None ≡ lowest m P
lowest_none m P no_one = by (lowest m P) (search_lowest m P) where
  by : (r : Option ℕ) → Found m P r → None ≡ r
  by r (some j lj tj leastj) = absurd (no_one j lj tj)
  by r (none h) = refl

-- the cut, by roots
module _ (n : Network) (ps : List ℕ) (long : length ps ≡ 1024) (rep : Represents ps (links_of n) (usable_of n)) (root-0 : ◌≡◌ {A = ℕ} (root_of ps 0) 0) where
  joined_by_root : (x : ℕ) → x < n.points → eqb 0 (root_of ps x) ≡ share_label (links_of n) (count_of n) (usable_of n) 0 x
  joined_by_root x l = ap (λ r. eqb r (root_of ps x)) (sym root-0) ∙ same_roots ps n (usable_of n) long rep 0 x (let f = n.few in omega arith) (let f = n.few in omega arith)

  pub cut_here : (x : ℕ) → x < n.points → (root_of ps x ≡ 0 → ⊥) → ((z : ℕ) → z < x → root_of ps z ≡ 0) → Some x ≡ lowest n.points (is_cut n)
  cut_here x l apart below = lowest_is n.points (is_cut n) x l
      (not_from (share_label (links_of n) (count_of n) (usable_of n) 0 x) (λ u. apart (sym (eqb→eq 0 (root_of ps x) (subst T (sym (joined_by_root x l)) u)))))
      (λ j less u. not_to (share_label (links_of n) (count_of n) (usable_of n) 0 j) u (subst T (joined_by_root j (omega arith)) (subst (λ r. T (eqb 0 r)) (sym (below j less)) (eqb_refl 0))))

  pub no_cut : ((z : ℕ) → z < n.points → root_of ps z ≡ 0) → None ≡ lowest n.points (is_cut n)
  no_cut all = lowest_none n.points (is_cut n) (λ j less u. not_to (share_label (links_of n) (count_of n) (usable_of n) 0 j) u (subst T (joined_by_root j less) (subst (λ r. T (eqb 0 r)) (sym (all j less)) (eqb_refl 0))))
