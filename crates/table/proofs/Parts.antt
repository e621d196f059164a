-- The parts that kept links join, numbered by their lowest points, and chains over them.
use Rattle.std.proofs.Common.{◌≡◌, ℕ, suc, ◌<◌, Bool, not, ◌&&◌, T, eqb, ◌⊎◌, List, [], ◌∷◌, map, length, Some, sym, refl, ap, ◌∙◌, subst, inl, inr, arith, eqb→eq}
use native.Mathlib.Decide.{dec_lt}
use lib.Dec.{eqb_refl}
use Rattle.std.proofs.lemmas.Option.{slice_get_past}
use Rattle.std.specs.List.{slice_get}
use Rattle.price.specs.Kind.{Operations, Laws}
use Rattle.spanning.specs.Joined.{Joined, Spans}
use Rattle.spanning.specs.Joined.Joined.{same, forth, back}
use Rattle.spanning.specs.Sets.{count}
use Rattle.spanning.proofs.Chains.{join, wider}
use Rattle.spanning.proofs.LabelsDecide.{joined_is, is_joined}
use Rattle.spanning.proofs.Few.{label_low, label_idle}
use Rattle.spanning.proofs.Subsets.{or_left, or_right, or_cases, and_both, and_left, and_right}
use Rattle.table.specs.Narrowed.{lowest_of, is_lowest, part_of, between, narrowed_link, numbers, narrowed, number_below, point_below, lowered}
use Rattle.table.specs.Ranks.{ends, link_count, kept, free, first_end, second_end}
use Rattle.table.specs.Table.{Table, Lawful}
use Rattle.table.specs.Trees.{is_spanned}
use Rattle.table.proofs.Graphs as graphs
use Rattle.table.proofs.Numbers.{nth_map, count_steps, length_numbers, at_place, stands, Stands}
use Rattle.table.proofs.Order.{free_below_lem}

module _ {K : Type 0} (o : Operations K) (laws : Laws o) (t : Table K) (lawful : Lawful o t) where
  abbrev N : Table K
  N = narrowed o t

  pub own_lowest : (x : ℕ) → T (is_lowest t (lowest_of t x))
  own_lowest x = subst (λ l. T (eqb l (lowest_of t x))) (sym (label_idle (ends t) (link_count t) (kept t) x)) (eqb_refl (lowest_of t x))

  -- kept links join two points exactly if their parts have one number
  pub same_lowest : (x y : ℕ) → part_of t x ≡ part_of t y → lowest_of t x ≡ lowest_of t y
  same_lowest x y e = elim (dec_lt (lowest_of t x) (lowest_of t y)) [
    | yes l ↦ absurd (let s = count_steps (is_lowest t) (lowest_of t x) (lowest_of t y) l (own_lowest x) in omega arith)
    | no l ↦ elim (dec_lt (lowest_of t y) (lowest_of t x)) [
      | yes m ↦ absurd (let s = count_steps (is_lowest t) (lowest_of t y) (lowest_of t x) m (own_lowest y) in omega arith)
      | no m ↦ omega arith
    ]
  ]

  pub joined_in_part : (x y : ℕ) → part_of t x ≡ part_of t y → Joined (ends t) (kept t) x y
  joined_in_part x y e = is_joined (ends t) (link_count t) (graphs.finite o laws t lawful) (kept t) x y (subst (λ l. T (eqb (lowest_of t x) l)) (same_lowest x y e) (eqb_refl (lowest_of t x)))

  pub part_of_joined : (x y : ℕ) → Joined (ends t) (kept t) x y → part_of t x ≡ part_of t y
  part_of_joined x y c = ap (count (is_lowest t)) (eqb→eq (lowest_of t x) (lowest_of t y) (joined_is (ends t) (link_count t) (graphs.finite o laws t lawful) (kept t) x y c))

  pub part_below_lem : (x : ℕ) → x < t.points → part_of t x < count (is_lowest t) t.points
  part_below_lem x l = let low = label_low (ends t) (link_count t) (kept t) x in count_steps (is_lowest t) (lowest_of t x) t.points (omega arith) (own_lowest x)

  pub part_0 : ◌≡◌ {A = ℕ} (part_of t 0) 0
  part_0 =
      let low = label_low (ends t) (link_count t) (kept t) 0 in
      let e : lowest_of t 0 ≡ 0 = omega arith in
      ap (count (is_lowest t)) e

  -- each part has its lowest point
  pub record Lowest (p x : ℕ) : Type 0 where
    pub below : x < t.points
    pub own : lowest_of t x ≡ x
    pub part : part_of t x ≡ p

  pub point_of : (p : ℕ) → p < count (is_lowest t) t.points → Lowest p (point_below t p)
  point_of p l =
      let s = stands (is_lowest t) t.points t.points p l in
      let x = point_below t p in
      let own : lowest_of t x ≡ x = eqb→eq (lowest_of t x) x s.passes in
      record { below = s.below; own = own; part = ap (count (is_lowest t)) own ∙ s.place }

  -- the narrowing's links
  pub link_count_lem : link_count N ≡ count (between t) (link_count t)
  link_count_lem = long_map (narrowed_link o t) (numbers t) ∙ length_numbers (between t) (link_count t) where
    long_map : {X Y : Type 0} (f : X → Y) (xs : List X) → length (map f xs) ≡ length xs
    long_map f [] = refl
    long_map f (x ∷ xs) = ap suc (long_map f xs)

  pub link_at : (i : ℕ) → i < link_count N → slice_get N.links i ≡ Some (narrowed_link o t (number_below t i))
  link_at i l = nth_map (narrowed_link o t) (numbers t) i (link_count t) (let e = link_count_lem in let m = length_numbers (between t) (link_count t) in omega arith)

  pub number_at : (i : ℕ) → i < link_count N → Stands (between t) (link_count t) i (number_below t i)
  number_at i l = stands (between t) (link_count t) (link_count t) i (let e = link_count_lem in omega arith)

  pub place_below : (k : ℕ) → T (between t k) → count (between t) k < link_count N
  place_below k u =
      let l = free_below_lem t k (and_left (free t k) (not (is_spanned t (kept t) k)) u) in
      let s = count_steps (between t) k (link_count t) l u in
      let e = link_count_lem in
      omega arith

  pub number_of_place : (k : ℕ) → T (between t k) → number_below t (count (between t) k) ≡ k
  number_of_place k u = at_place (between t) (link_count t) (link_count t) k (free_below_lem t k (and_left (free t k) (not (is_spanned t (kept t) k)) u)) u

  pub first_above : (i : ℕ) → i < link_count N → (ends N).first i ≡ part_of t ((ends t).first (number_below t i))
  first_above i l = ap first_end (link_at i l)

  pub second_above : (i : ℕ) → i < link_count N → (ends N).second i ≡ part_of t ((ends t).second (number_below t i))
  second_above i l = ap second_end (link_at i l)

  lower_kept : (S : ℕ → Bool) (k : ℕ) → T (kept t k) → T (lowered t S k)
  lower_kept S k u = or_left (kept t k) (between t k && S (count (between t) k)) u

  pub lower_in : (S : ℕ → Bool) (k : ℕ) → T (between t k) → T (S (count (between t) k)) → T (lowered t S k)
  lower_in S k b u = or_right (kept t k) (between t k && S (count (between t) k)) (and_both (between t k) (S (count (between t) k)) b u)

  pub lower_cases : (S : ℕ → Bool) (k : ℕ) → T (lowered t S k) → T (kept t k) ⊎ (T (between t k) × T (S (count (between t) k)))
  lower_cases S k u = elim (or_cases (kept t k) (between t k && S (count (between t) k)) u) [
    | inl v ↦ inl v
    | inr v ↦ inr (and_left (between t k) (S (count (between t) k)) v, and_right (between t k) (S (count (between t) k)) v)
  ]

  pub lower_at : (S : ℕ → Bool) (i : ℕ) → i < link_count N → T (S i) → T (lowered t S (number_below t i))
  lower_at S i l u = let s = number_at i l in lower_in S (number_below t i) s.passes (subst (λ j. T (S j)) (sym s.place) u)

  -- a chain below, seen above
  step_up : (S : ℕ → Bool) (k p : ℕ) → T (between t k) → T (S (count (between t) k)) → Joined (ends N) S p (part_of t ((ends t).first k)) → Joined (ends N) S p (part_of t ((ends t).second k))
  step_up S k p b u c =
      let i = count (between t) k in
      let l = place_below k b in
      let q = number_of_place k b in
      let first_is : (ends N).first i ≡ part_of t ((ends t).first k) = first_above i l ∙ ap (λ j. part_of t ((ends t).first j)) q in
      let second_is : (ends N).second i ≡ part_of t ((ends t).second k) = second_above i l ∙ ap (λ j. part_of t ((ends t).second j)) q in
      subst (Joined (ends N) S p) second_is (forth p i u (subst (Joined (ends N) S p) (sym first_is) c))

  step_down : (S : ℕ → Bool) (k p : ℕ) → T (between t k) → T (S (count (between t) k)) → Joined (ends N) S p (part_of t ((ends t).second k)) → Joined (ends N) S p (part_of t ((ends t).first k))
  step_down S k p b u c =
      let i = count (between t) k in
      let l = place_below k b in
      let q = number_of_place k b in
      let first_is : (ends N).first i ≡ part_of t ((ends t).first k) = first_above i l ∙ ap (λ j. part_of t ((ends t).first j)) q in
      let second_is : (ends N).second i ≡ part_of t ((ends t).second k) = second_above i l ∙ ap (λ j. part_of t ((ends t).second j)) q in
      subst (Joined (ends N) S p) first_is (back p i u (subst (Joined (ends N) S p) (sym second_is) c))

  kept_ends : (k : ℕ) → T (kept t k) → part_of t ((ends t).first k) ≡ part_of t ((ends t).second k)
  kept_ends k u = part_of_joined ((ends t).first k) ((ends t).second k) (forth ((ends t).first k) k u (same ((ends t).first k)))

  pub chain_up : (S : ℕ → Bool) (x y : ℕ) → Joined (ends t) (lowered t S) x y → Joined (ends N) S (part_of t x) (part_of t y)
  chain_up S x y (same w) = same (part_of t w)
  chain_up S x y (forth w k u c) = elim (lower_cases S k u) [
    | inl own ↦ subst (Joined (ends N) S (part_of t x)) (kept_ends k own) (chain_up S x ((ends t).first k) c)
    | inr v ↦ step_up S k (part_of t x) v.0 v.1 (chain_up S x ((ends t).first k) c)
  ]
  chain_up S x y (back w k u c) = elim (lower_cases S k u) [
    | inl own ↦ subst (Joined (ends N) S (part_of t x)) (sym (kept_ends k own)) (chain_up S x ((ends t).second k) c)
    | inr v ↦ step_down S k (part_of t x) v.0 v.1 (chain_up S x ((ends t).second k) c)
  ]

  -- a chain above, seen below: it ends in some point of the part
  pub record Reached (S : ℕ → Bool) (x q : ℕ) : Type 0 where
    pub point : ℕ
    pub part : part_of t point ≡ q
    pub chain : Joined (ends t) (lowered t S) x point

  part_chain : (S : ℕ → Bool) (x y : ℕ) → part_of t x ≡ part_of t y → Joined (ends t) (lowered t S) x y
  part_chain S x y e = wider (ends t) (kept t) (lowered t S) (lower_kept S) x y (joined_in_part x y e)

  past_end : (i : ℕ) → (i < link_count N → ⊥) → (ends N).first i ≡ (ends N).second i
  past_end i n = ap first_end (slice_get_past N.links i (omega arith)) ∙ sym (ap second_end (slice_get_past N.links i (omega arith)))

  chain_down_to : (S : ℕ → Bool) (x p q : ℕ) → part_of t x ≡ p → Joined (ends N) S p q → Reached S x q
  chain_down_to S x p q e (same w) = record { point = x; part = e; chain = same x }
  chain_down_to S x p q e (forth w i u c) =
      let r = chain_down_to S x p ((ends N).first i) e c in
      elim (dec_lt i (link_count N)) [
        | no n ↦ record { point = r.point; part = r.part ∙ past_end i n; chain = r.chain }
        | yes l ↦
            let k = number_below t i in
            record {
              point = (ends t).second k;
              part = sym (second_above i l);
              chain = forth x k (lower_at S i l u) (join (ends t) (lowered t S) x r.point ((ends t).first k) r.chain (part_chain S r.point ((ends t).first k) (r.part ∙ first_above i l)));
            }
      ]
  chain_down_to S x p q e (back w i u c) =
      let r = chain_down_to S x p ((ends N).second i) e c in
      elim (dec_lt i (link_count N)) [
        | no n ↦ record { point = r.point; part = r.part ∙ sym (past_end i n); chain = r.chain }
        | yes l ↦
            let k = number_below t i in
            record {
              point = (ends t).first k;
              part = sym (first_above i l);
              chain = back x k (lower_at S i l u) (join (ends t) (lowered t S) x r.point ((ends t).second k) r.chain (part_chain S r.point ((ends t).second k) (r.part ∙ second_above i l)));
            }
      ]

  pub chain_down : (S : ℕ → Bool) (x y : ℕ) → Joined (ends N) S (part_of t x) (part_of t y) → Joined (ends t) (lowered t S) x y
  chain_down S x y c = let r = chain_down_to S x (part_of t x) (part_of t y) refl c in join (ends t) (lowered t S) x r.point y r.chain (part_chain S r.point y r.part)

  -- links spanned above are those spanned below
  pub spans_down : (S : ℕ → Bool) (i : ℕ) → i < link_count N → Spans (ends N) S i → Spans (ends t) (lowered t S) (number_below t i)
  spans_down S i l c = chain_down S ((ends t).first (number_below t i)) ((ends t).second (number_below t i)) (subst (λ p. Joined (ends N) S p (part_of t ((ends t).second (number_below t i)))) (first_above i l) (subst (Joined (ends N) S ((ends N).first i)) (second_above i l) c))

  pub spans_up : (S : ℕ → Bool) (i : ℕ) → i < link_count N → Spans (ends t) (lowered t S) (number_below t i) → Spans (ends N) S i
  spans_up S i l c = subst (λ p. Joined (ends N) S p ((ends N).second i)) (sym (first_above i l)) (subst (Joined (ends N) S (part_of t ((ends t).first (number_below t i)))) (sym (second_above i l)) (chain_up S ((ends t).first (number_below t i)) ((ends t).second (number_below t i)) c))
