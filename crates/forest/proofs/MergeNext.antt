-- One more join is remembered.
use Rattle.std.proofs.Common.{◌≡◌, ℕ, suc, ◌<◌, ◌≤◌, T, ◌⊎◌, List, [], ◌∷◌, ◌++◌, length, take, Some, None, Option, sym, refl, ap, ◌∙◌, subst, inl, inr, arith}
use native.Mathlib.Decide.{dec_lt}
use Rattle.std.proofs.lemmas.List.{length_push, take_all, take-append-le}
use Rattle.forest.specs.declared.merges.Hang.{Hang}
use Rattle.forest.specs.declared.merges.Merges.{Merges}
use Rattle.forest.specs.Merges.{among, hang_of, joins_of, join_count, root_after, Remembers}
use Rattle.forest.proofs.MergeJoins.{among_push, one_after, met_after, along, pushed, unpushed}
use Rattle.forest.proofs.MergeRoots.{earlier_same, root_moved, root_kept}
use Rattle.spanning.specs.Joined.{Graph, Joined}
use Rattle.spanning.proofs.Subsets.{with_cases}

-- the join of the link l hangs the root a from b
module _ (hang hang' : ℕ → Option Hang) (n : ℕ) (js : List ℕ) (g : Graph) (short : length js ≡ n)
    (one : (t x y : ℕ) → t ≤ n → x < 1024 → y < 1024 → root_after hang t x ≡ root_after hang t y → Joined g (among (take t js)) x y)
    (met : (t x y : ℕ) → t ≤ n → x < 1024 → y < 1024 → Joined g (among (take t js)) x y → root_after hang t x ≡ root_after hang t y)
    (a b l : ℕ) (root : hang a ≡ None) (now : hang' a ≡ Some (record { parent = b; join = n })) (others : (x : ℕ) → (x ≡ a → ⊥) → hang' x ≡ hang x)
    (early : (x : ℕ) (h : Hang) → hang x ≡ Some h → h.join < n)
    (la : g.first l < 1024) (lb : g.second l < 1024)
    (order : ((root_after hang n (g.first l) ≡ a) × (root_after hang n (g.second l) ≡ b)) ⊎ ((root_after hang n (g.first l) ≡ b) × (root_after hang n (g.second l) ≡ a))) where
  abbrev js' : List ℕ
  js' = js ++ l ∷ []

  whole : take n js ≡ js
  whole = take_all n js (omega arith)

  whole' : take (suc n) js' ≡ js'
  whole' = let long = length_push js l in take_all (suc n) js' (omega arith)

  front : (t : ℕ) → t ≤ n → take t js' ≡ take t js
  front t le = take-append-le t js (l ∷ []) (omega arith)

  before_same : (t x : ℕ) → t ≤ n → root_after hang' t x ≡ root_after hang t x
  before_same = earlier_same hang hang' n a b root now others

  now_moved : (x : ℕ) → x < 1024 → root_after hang n x ≡ a → root_after hang' (suc n) x ≡ b
  now_moved x lx = root_moved hang hang' n a b root now others x

  now_kept : (x : ℕ) → x < 1024 → (root_after hang n x ≡ a → ⊥) → root_after hang' (suc n) x ≡ root_after hang n x
  now_kept x lx = root_kept hang hang' n a b root now others x (early (root_after hang n x))

  one_whole : (x y : ℕ) → x < 1024 → y < 1024 → root_after hang n x ≡ root_after hang n y → Joined g (among js) x y
  one_whole x y lx ly q = along g (take n js) js whole x y (one n x y (omega arith) lx ly q)

  met_whole : (x y : ℕ) → x < 1024 → y < 1024 → Joined g (among js) x y → root_after hang n x ≡ root_after hang n y
  met_whole x y lx ly d = met n x y (omega arith) lx ly (along g js (take n js) (sym whole) x y d)

  one_now : (x y : ℕ) → x < 1024 → y < 1024 → root_after hang' (suc n) x ≡ root_after hang' (suc n) y → Joined g (among js') x y
  one_now x y lx ly q = pushed g js l x y (one_after g (among js) l 1024 (root_after hang n) la lb one_whole met_whole a b order (root_after hang' (suc n)) now_moved now_kept x y lx ly q)

  met_now : (x y : ℕ) → x < 1024 → y < 1024 → Joined g (among js') x y → root_after hang' (suc n) x ≡ root_after hang' (suc n) y
  met_now x y lx ly d = met_after g (among js) l 1024 (root_after hang n) la lb one_whole met_whole a b order (root_after hang' (suc n)) now_moved now_kept x y lx ly (unpushed g js l x y d)

  pub one_next : (t x y : ℕ) → t ≤ suc n → x < 1024 → y < 1024 → root_after hang' t x ≡ root_after hang' t y → Joined g (among (take t js')) x y
  one_next t x y lt lx ly q = elim (dec_lt n t) [
    | yes last ↦
        let e : t ≡ suc n = omega arith in
        along g js' (take t js') (sym (ap (λ s. take s js') e ∙ whole')) x y (one_now x y lx ly (subst (λ s. root_after hang' s x ≡ root_after hang' s y) e q))
    | no earlier ↦
        let le : t ≤ n = omega arith in
        along g (take t js) (take t js') (sym (front t le)) x y (one t x y le lx ly (sym (before_same t x le) ∙ q ∙ before_same t y le))
  ]

  pub met_next : (t x y : ℕ) → t ≤ suc n → x < 1024 → y < 1024 → Joined g (among (take t js')) x y → root_after hang' t x ≡ root_after hang' t y
  met_next t x y lt lx ly d = elim (dec_lt n t) [
    | yes last ↦
        let e : t ≡ suc n = omega arith in
        subst (λ s. root_after hang' s x ≡ root_after hang' s y) (sym e) (met_now x y lx ly (along g (take t js') js' (ap (λ s. take s js') e ∙ whole') x y d))
    | no earlier ↦
        let le : t ≤ n = omega arith in
        before_same t x le ∙ met t x y le lx ly (along g (take t js') (take t js) (front t le) x y d) ∙ sym (before_same t y le)
  ]

-- one more join of a record of joins
module _ (m m' : Merges) (a b l : ℕ) (root : hang_of m a ≡ None) (now : hang_of m' a ≡ Some (record { parent = b; join = join_count m })) (others : (x : ℕ) → (x ≡ a → ⊥) → hang_of m' x ≡ hang_of m x) (joins : joins_of m' ≡ joins_of m ++ l ∷ []) (g : Graph) (old : Remembers m g) (la : g.first l < 1024) (lb : g.second l < 1024)
    (order : ((root_after (hang_of m) (join_count m) (g.first l) ≡ a) × (root_after (hang_of m) (join_count m) (g.second l) ≡ b)) ⊎ ((root_after (hang_of m) (join_count m) (g.first l) ≡ b) × (root_after (hang_of m) (join_count m) (g.second l) ≡ a))) where
  one_more : join_count m' ≡ suc (join_count m)
  one_more = ap length joins ∙ (let long = length_push (joins_of m) l in omega arith)

  one : (t x y : ℕ) → t ≤ suc (join_count m) → x < 1024 → y < 1024 → root_after (hang_of m') t x ≡ root_after (hang_of m') t y → Joined g (among (take t (joins_of m ++ l ∷ []))) x y
  one = one_next (hang_of m) (hang_of m') (join_count m) (joins_of m) g refl old.one_root old.roots_met a b l root now others m.hung_by_join la lb order

  met : (t x y : ℕ) → t ≤ suc (join_count m) → x < 1024 → y < 1024 → Joined g (among (take t (joins_of m ++ l ∷ []))) x y → root_after (hang_of m') t x ≡ root_after (hang_of m') t y
  met = met_next (hang_of m) (hang_of m') (join_count m) (joins_of m) g refl old.one_root old.roots_met a b l root now others m.hung_by_join la lb order

  ends_next : (k : ℕ) → T (among (joins_of m') k) → (g.first k < 1024) × (g.second k < 1024)
  ends_next k t = elim (with_cases (among (joins_of m)) l k (subst T (among_push (joins_of m) l k) (subst (λ js. T (among js k)) joins t))) [
    | inl s ↦ old.ends k s
    | inr q ↦ subst (λ j. (g.first j < 1024) × (g.second j < 1024)) (sym q) (la, lb)
  ]

  pub remembers_next : Remembers m' g
  remembers_next = record {
    ends = ends_next;
    one_root = λ t x y lt lx ly q. along g (take t (joins_of m ++ l ∷ [])) (take t (joins_of m')) (ap (take t) (sym joins)) x y (one t x y (omega (arith, one_more)) lx ly q);
    roots_met = λ t x y lt lx ly d. met t x y (omega (arith, one_more)) lx ly (along g (take t (joins_of m')) (take t (joins_of m ++ l ∷ [])) (ap (take t) joins) x y d);
  }

-- two points that the links joined so far join have one root
module _ (m : Merges) (g : Graph) (told : Remembers m g) (x y : ℕ) (lx : x < 1024) (ly : y < 1024) where
  all_joins : take (join_count m) (joins_of m) ≡ joins_of m
  all_joins = take_all (join_count m) (joins_of m) (omega arith)

  pub met_in_all : Joined g (among (joins_of m)) x y → root_after (hang_of m) (join_count m) x ≡ root_after (hang_of m) (join_count m) y
  met_in_all d = told.roots_met (join_count m) x y (omega arith) lx ly (along g (joins_of m) (take (join_count m) (joins_of m)) (sym all_joins) x y d)
