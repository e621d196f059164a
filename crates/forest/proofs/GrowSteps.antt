-- A union-find over the kept links, one by one.
use Rattle.std.proofs.Common.{◌≡◌, ℕ, suc, ◌+◌, ◌<◌, ◌≤◌, Bool, true, false, cond, not, ◌&&◌, ◌||◌, T, eqb, ltb, ◌⊎◌, List, length, replicate, set, Some, None, Option, sym, refl, ap, ◌∙◌, subst, inl, inr, arith, eqb→eq, ltb→lt, lt→ltb}
use lib.Dec.{eqb_refl}
use native.Mathlib.Decide.{dec_lt}
use Rattle.std.proofs.lemmas.List.{get_or_past}
use Rattle.std.specs.Option.{option_or}
use Rattle.spanning.specs.Closure.{share_label, Finite}
use Rattle.spanning.specs.Joined.{Graph}
use Rattle.spanning.specs.Roots.{root_of, Represents}
use Rattle.spanning.specs.Sets.{with_link, held}
use Rattle.spanning.proofs.Chains.{wider}
use Rattle.spanning.proofs.LabelsDecide.{joined_is, is_joined}
use Rattle.spanning.proofs.Subsets.{or_left, and_both, and_left, and_right, not_to, true_or, same_or, same_test, with_old, with_new, with_cases, Within}
use Rattle.table.specs.Ranks.{is_kept, is_free}
use Rattle.table.specs.Verdicts.{lowest, or_else}
use Rattle.forest.specs.declared.growing.Grower.{Grower}
use Rattle.forest.specs.declared.networks.Network.{Network}
use Rattle.forest.specs.declared.networks.ends.Ends.{Ends}
use Rattle.forest.specs.Growing.{kept_of, free_of, spanned_by, kept_below, closes_ring, KeptTo}
use Rattle.forest.specs.Networks.{nowhere, link_at}
use Rattle.forest.specs.Readings.{count_of, links_of}
use Rattle.forest.proofs.NetworkLists.{all_same, written, unwritten}

pub is_true : (b : Bool) → T b → b ≡ true
is_true true t = refl
is_true false t = absurd t

pub is_false : (b : Bool) → (T b → ⊥) → b ≡ false
is_false true n = absurd (n tt)
is_false false n = refl

-- one set in place of another with the same links
pub represents_same : (ps : List ℕ) (g : Graph) (S R : ℕ → Bool) → Within S R → Within R S → Represents ps g S → Represents ps g R
represents_same ps g S R sr rs rep x y lx ly = ((λ q. wider g S R sr x y ((rep x y lx ly).0 q)), (λ d. (rep x y lx ly).1 (wider g R S rs x y d)))

-- a network's links
pub past_links : (n : Network) (k : ℕ) → count_of n ≤ k → link_at n.links.items k ≡ nowhere
past_links n k l = get_or_past n.links.items k nowhere l

pub finite : (n : Network) → Finite (links_of n) (count_of n)
finite n e l = ap (λ link. link.first) (past_links n e l) ∙ sym (ap (λ link. link.second) (past_links n e l))

pub no_use : (n : Network) (k : ℕ) → count_of n ≤ k → (kept_of n k || free_of n k) ≡ false
no_use n k l = ap (λ link. is_kept link.role || is_free link.role) (past_links n k l)

pub first_in : (n : Network) (k : ℕ) → (links_of n).first k < 1024
first_in n k = let a = n.first_below k in let b = n.few in omega arith

pub second_in : (n : Network) (k : ℕ) → (links_of n).second k < 1024
second_in n k = let a = n.second_below k in let b = n.few in omega arith

pub kept_in : (n : Network) (k : ℕ) → T (kept_of n k) → k < count_of n
kept_in n k t = below (count_of n) k (λ l. subst T (no_use n k l) (or_left (kept_of n k) (free_of n k) t)) where
  below : (m j : ℕ) → (m ≤ j → ⊥) → j < m
  below m j h = elim (true_or (ltb j m)) [ inl u ↦ ltb→lt j m u | inr u ↦ absurd (h (not_less j m u)) ] where
    not_less : (j m : ℕ) → (T (ltb j m) → ⊥) → m ≤ j
    not_less j m u = grind arith

-- whether roots are the same, and whether links of S join two points
pub same_roots : (ps : List ℕ) (n : Network) (S : ℕ → Bool) → length ps ≡ 1024 → Represents ps (links_of n) S → (x y : ℕ) → x < 1024 → y < 1024 → eqb (root_of ps x) (root_of ps y) ≡ share_label (links_of n) (count_of n) S x y
same_roots ps n S long rep x y lx ly =
    let lx' : x < length ps = omega arith in
    let ly' : y < length ps = omega arith in
    same_test (eqb (root_of ps x) (root_of ps y)) (share_label (links_of n) (count_of n) S x y)
    (λ t. joined_is (links_of n) (count_of n) (finite n) S x y ((rep x y lx' ly').0 (eqb→eq (root_of ps x) (root_of ps y) t)))
    (λ t. subst (λ z. T (eqb (root_of ps x) z)) ((rep x y lx' ly').1 (is_joined (links_of n) (count_of n) (finite n) S x y t)) (eqb_refl (root_of ps x)))

pub or_none : (r : Option ℕ) → option_or r None ≡ r
or_none None = refl
or_none (Some k) = refl

-- what joining two points makes of roots
abbrev pub Joins : List ℕ → List ℕ → ℕ → ℕ → Type 0
Joins ps qs a b = (g : Graph) (S : ℕ → Bool) (e : ℕ) → g.first e ≡ a → g.second e ≡ b → a < 1024 → b < 1024 → Represents ps g S → Represents qs g (with_link S e)

pub represents_joined : (n : Network) (S : ℕ → Bool) (e : ℕ) (link : Ends) (ps qs : List ℕ) → link ≡ link_at n.links.items e → Joins ps qs link.first link.second → Represents ps (links_of n) S → Represents qs (links_of n) (with_link S e)
represents_joined n S e link ps qs at joined rep =
    let f = ap (λ l. l.first) at in
    let s = ap (λ l. l.second) at in
    joined (links_of n) S e (sym f) (sym s) (subst (λ x. x < 1024) (sym f) (first_in n e)) (subst (λ x. x < 1024) (sym s) (second_in n e)) rep

-- a link that joins two parts is one of the network's
pub apart_below : (n : Network) (k : ℕ) (link : Ends) (ps : List ℕ) → link ≡ link_at n.links.items k → T (not (eqb (root_of ps link.first) (root_of ps link.second))) → k < count_of n
apart_below n k link ps at fresh = elim (dec_lt k (count_of n)) [
  | yes l ↦ l
  | no l ↦
      let none : link ≡ nowhere = at ∙ past_links n k (omega arith) in
      absurd (not_to (eqb (root_of ps 0) (root_of ps 0)) (subst (λ l. T (not (eqb (root_of ps l.first) (root_of ps l.second)))) none fresh) (eqb_refl (root_of ps 0)))
]

-- before any link is joined
pub kept_none : (n : Network) (g : Grower) → Represents g.parts.parents (links_of n) (λ _. false) → g.tree ≡ replicate 2048 false → g.ring ≡ None → KeptTo n 0 g
kept_none n g rep unmarked told = record {
  parts = represents_same g.parts.parents (links_of n) (λ _. false) (kept_below n 0) (λ k u. absurd u) (λ k u. absurd (none_below k u)) rep;
  bits = λ k. ap (λ bits. held bits k) unmarked ∙ all_same 2048 k false ∙ sym (is_false (kept_below n 0 k) (none_below k));
  closed = told;
} where
  none_below : (k : ℕ) → T (kept_below n 0 k) → ⊥
  none_below k u = let l = ltb→lt k 0 (and_right (kept_of n k) (ltb k 0) u) in omega arith

module _ (n : Network) (i : ℕ) where
  below_more : Within (kept_below n i) (kept_below n (i + 1))
  below_more k t = and_both (kept_of n k) (ltb k (i + 1)) (and_left (kept_of n k) (ltb k i) t) (lt→ltb k (i + 1) (let l = ltb→lt k i (and_right (kept_of n k) (ltb k i) t) in omega arith))

  below_cases : (k : ℕ) → T (kept_below n (i + 1) k) → T (kept_below n i k) ⊎ (k ≡ i)
  below_cases k t = elim (same_or k i) [
    | inl q ↦ inr q
    | inr apart ↦ inl (and_both (kept_of n k) (ltb k i) (and_left (kept_of n k) (ltb k (i + 1)) t) (lt→ltb k i (let l = ltb→lt k (i + 1) (and_right (kept_of n k) (ltb k (i + 1)) t) in omega arith)))
  ]

  -- a kept link is one more
  pub kept_with : T (kept_of n i) → (k : ℕ) → T (with_link (kept_below n i) i k) → T (kept_below n (i + 1) k)
  kept_with own k t = elim (with_cases (kept_below n i) i k t) [
    | inl s ↦ below_more k s
    | inr q ↦ and_both (kept_of n k) (ltb k (i + 1)) (subst (λ j. T (kept_of n j)) (sym q) own) (lt→ltb k (i + 1) (omega arith))
  ]

  pub with_kept : (k : ℕ) → T (kept_below n (i + 1) k) → T (with_link (kept_below n i) i k)
  with_kept k t = elim (below_cases k t) [
    | inl s ↦ with_old (kept_below n i) i k s
    | inr q ↦ subst (λ j. T (with_link (kept_below n i) i j)) (sym q) (with_new (kept_below n i) i)
  ]

  -- another is none
  pub not_kept : (T (kept_of n i) → ⊥) → (k : ℕ) → T (kept_below n (i + 1) k) → T (kept_below n i k)
  not_kept out k t = elim (below_cases k t) [
    | inl s ↦ s
    | inr q ↦ absurd (out (subst (λ j. T (kept_of n j)) q (and_left (kept_of n k) (ltb k (i + 1)) t)))
  ]

  next_lowest : (P : ℕ → Bool) → lowest (i + 1) P ≡ or_else (lowest i P) (cond (P i) (Some i) None)
  next_lowest P = let e : i + 1 ≡ suc i = omega arith in ap (λ j. lowest j P) e

  else_none : (r : Option ℕ) → or_else r None ≡ r
  else_none None = refl
  else_none (Some k) = refl

  -- the next link is not kept
  pub passed_over : (g : Grower) → (T (kept_of n i) → ⊥) → KeptTo n i g → KeptTo n (i + 1) g
  passed_over g out before = record {
    parts = represents_same g.parts.parents (links_of n) (kept_below n i) (kept_below n (i + 1)) below_more (not_kept out) before.parts;
    bits = λ k. before.bits k ∙ same_test (kept_below n i k) (kept_below n (i + 1) k) (below_more k) (not_kept out k);
    closed = before.closed ∙ sym (next_lowest (closes_ring n) ∙ ap (λ b. or_else (lowest i (closes_ring n)) (cond b (Some i) None)) (is_false (closes_ring n i) (λ u. out (and_left (kept_of n i) (spanned_by n (kept_below n i) i) u))) ∙ else_none (lowest i (closes_ring n)));
  }

  -- the next link is kept, and joined
  pub taken : (g h : Grower) (link : Ends) (fresh : Bool) → link ≡ link_at n.links.items i → T (is_kept link.role) → i < length g.tree → fresh ≡ not (eqb (root_of g.parts.parents link.first) (root_of g.parts.parents link.second)) → Joins g.parts.parents h.parts.parents link.first link.second → h.tree ≡ set g.tree i true → h.ring ≡ option_or g.ring (cond fresh None (Some i)) → KeptTo n i g → KeptTo n (i + 1) h
  taken g h link fresh at own_link room value joined marked told before =
      let own : T (kept_of n i) = subst (λ l. T (is_kept l.role)) at own_link in
      let spanned : eqb (root_of g.parts.parents link.first) (root_of g.parts.parents link.second) ≡ spanned_by n (kept_below n i) i =
      ap (λ l. eqb (root_of g.parts.parents l.first) (root_of g.parts.parents l.second)) at ∙ same_roots g.parts.parents n (kept_below n i) g.parts.long before.parts ((links_of n).first i) ((links_of n).second i) (first_in n i) (second_in n i) in
      record {
        parts = represents_same h.parts.parents (links_of n) (with_link (kept_below n i) i) (kept_below n (i + 1)) (kept_with own) with_kept (represents_joined n (kept_below n i) i link g.parts.parents h.parts.parents at joined before.parts);
        bits = λ k. ap (λ bits. held bits k) marked ∙ (elim (same_or k i) [
          | inl q ↦ written g.tree i true false room k q ∙ sym (is_true (kept_below n (i + 1) k) (and_both (kept_of n k) (ltb k (i + 1)) (subst (λ j. T (kept_of n j)) (sym q) own) (lt→ltb k (i + 1) (omega arith))))
          | inr apart ↦ unwritten g.tree i true false room k apart ∙ before.bits k ∙ same_test (kept_below n i k) (kept_below n (i + 1) k) (below_more k) (λ t. elim (below_cases k t) [ inl s ↦ s | inr q ↦ absurd (apart q) ])
        ]);
        closed =
            told ∙ ap (λ b. option_or g.ring (cond b None (Some i))) (value ∙ ap not spanned) ∙ ap (λ r. option_or r (cond (not (spanned_by n (kept_below n i) i)) None (Some i))) before.closed
            ∙ same_or_else (lowest i (closes_ring n)) (cond (not (spanned_by n (kept_below n i) i)) None (Some i)) ∙ ap (or_else (lowest i (closes_ring n))) (flip (kept_of n i) (spanned_by n (kept_below n i) i) own) ∙ sym (next_lowest (closes_ring n));
      } where
        flip : (a b : Bool) → T a → cond (not b) None (Some i) ≡ cond (a && b) (Some i) None
        flip true true t = refl
        flip true false t = refl
        flip false b t = absurd t

        same_or_else : (a b : Option ℕ) → option_or a b ≡ or_else a b
        same_or_else None b = refl
        same_or_else (Some x) b = refl
