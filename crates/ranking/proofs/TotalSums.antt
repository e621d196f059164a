-- Prices added one by one, and when the total is exact.
use Rattle.std.proofs.Common.{◌≡◌, ℕ, zero, suc, ◌+◌, ◌-◌, ◌<◌, ◌≤◌, min, Bool, true, false, cond, ◌&&◌, ◌||◌, T, ltb, leb, ◌⊎◌, List, [], ◌∷◌, ◌++◌, length, filter, fold, sym, refl, ap, ◌∙◌, subst, inl, inr, add-zero, add-one, arith, le→leb, ltb→lt, lt→ltb, leb→le}
use native.Mathlib.Decide.{dec_lt}
use Rattle.std.proofs.lemmas.List.{get_or_past}
use Rattle.std.proofs.lemmas.Option.{slice_get_past}
use Rattle.std.specs.List.{range_with_len}
use Rattle.std.proofs.lemmas.List.Elements.{filter-append}
use Rattle.std.proofs.lemmas.List.Sums.{fold-append}
use Rattle.price.specs.Kind.{Operations, TotalOf, Laws}
use Rattle.price.specs.Kind.TotalOf.{one}
use Rattle.spanning.specs.Costs.{cost}
use Rattle.spanning.specs.Joined.{NoRing}
use Rattle.spanning.specs.Sets.{with_link, without_link, count}
use Rattle.spanning.proofs.Few.{fewer}
use Rattle.spanning.proofs.Search.{count_less}
use Rattle.spanning.proofs.Subsets.{or_left, or_right, or_cases, and_both, and_left, and_right, true_or, same_or, with_old, with_new, with_cases, without_in, without_old, without_apart, Within}
use Rattle.spanning.proofs.Totals.{cost_same, cost_without}
use Rattle.spanning.proofs.Totals as totals
use Rattle.table.specs.Ranks.{ends, link_count, usable, price_of, role_in, is_kept, is_free}
use Rattle.table.specs.Table.{Table, Lawful}
use Rattle.table.specs.Trees.{cost_of}
use Rattle.table.proofs.Graphs.{priced, on_points}
use Rattle.spanning.specs.Sets.{held}
use Rattle.ranking.specs.Totals.{added_cost, added_cost_of, from, between}

-- links of X from a number on, and between two
pub from_in : (low : ℕ) (X : ℕ → Bool) (k : ℕ) → low ≤ k → T (X k) → T (from low X k)
from_in low X k l t = and_both (leb low k) (X k) (le→leb low k l) t

pub from_low : (low : ℕ) (X : ℕ → Bool) (k : ℕ) → T (from low X k) → low ≤ k
from_low low X k t = leb→le low k (and_left (leb low k) (X k) t)

pub from_old : (low : ℕ) (X : ℕ → Bool) (k : ℕ) → T (from low X k) → T (X k)
from_old low X k t = and_right (leb low k) (X k) t

pub between_in : (low high : ℕ) (X : ℕ → Bool) (k : ℕ) → low ≤ k → k < high → T (X k) → T (between low high X k)
between_in low high X k l h t = and_both (from low X k) (ltb k high) (from_in low X k l t) (lt→ltb k high h)

pub between_low : (low high : ℕ) (X : ℕ → Bool) (k : ℕ) → T (between low high X k) → low ≤ k
between_low low high X k t = from_low low X k (and_left (from low X k) (ltb k high) t)

pub between_high : (low high : ℕ) (X : ℕ → Bool) (k : ℕ) → T (between low high X k) → k < high
between_high low high X k t = ltb→lt k high (and_right (from low X k) (ltb k high) t)

pub between_old : (low high : ℕ) (X : ℕ → Bool) (k : ℕ) → T (between low high X k) → T (X k)
between_old low high X k t = from_old low X k (and_left (from low X k) (ltb k high) t)

pub false_of : (b : Bool) → (T b → ⊥) → b ≡ false
false_of true n = absurd (n tt)
false_of false n = refl

pub true_of : (b : Bool) → T b → b ≡ true
true_of true t = refl
true_of false t = absurd t

pub held_below : (bits : List Bool) (k : ℕ) → T (held bits k) → k < length bits
held_below bits k t = elim (dec_lt k (length bits)) [
  | yes l ↦ l
  | no n ↦ absurd (subst T (get_or_past bits k false (omega arith)) t)
]

module _ {K : Type 0} (o : Operations K) (amount : K) (price : ℕ → K) where
  abbrev A : ℕ → (ℕ → Bool) → K
  A = added_cost o amount price

  -- links of no others are added
  pub added_none : (X : ℕ → Bool) (m n : ℕ) → m ≤ n → ((k : ℕ) → m ≤ k → k < n → T (X k) → ⊥) → A n X ≡ A m X
  added_none X m zero l h = let e : m ≡ 0 = omega arith in subst (λ j. A 0 X ≡ A j X) (sym e) refl
  added_none X m (suc n) l h = elim (same_or m (suc n)) [
    | inl q ↦ subst (λ j. A (suc n) X ≡ A j X) (sym q) refl
    | inr apart ↦
        let rest = added_none X m n (omega arith) (λ k a b. h k a (omega arith)) in
        ap (λ b. cond b (o.added (A n X) (price n)) (A n X)) (false_of (X n) (h n (omega arith) (omega arith))) ∙ rest
  ]

  pub added_first : (low : ℕ) (X : ℕ → Bool) → amount ≡ A low (from low X)
  added_first low X = sym (added_none (from low X) 0 low (omega arith) (λ k a b t. let l = from_low low X k t in omega arith))

  pub added_next : (low i : ℕ) (X : ℕ → Bool) (x r : K) → low ≤ i → x ≡ A i (from low X) → r ≡ cond (X i) (o.added x (price i)) x → r ≡ A (i + 1) (from low X)
  added_next low i X x r l e q = q ∙ ap (λ v. cond (X i) (o.added v (price i)) v) e ∙ ap (λ b. cond b (o.added (A i (from low X)) (price i)) (A i (from low X))) (sym (at_from (leb low i) (X i) (le→leb low i l))) ∙ ap (λ n. A n (from low X)) (sym (add-one i)) where
    at_from : (a b : Bool) → T a → a && b ≡ b
    at_from true b t = refl
    at_from false b t = absurd t

  -- the same along the list of the numbers from low on that X has
  pub added_along : (low n : ℕ) (X : ℕ → Bool) → fold (λ total k. o.added total (price k)) amount (filter X (range_with_len low n)) ≡ A (low + n) (from low X)
  added_along low zero X = added_first low X ∙ ap (λ n. A n (from low X)) (sym (add-zero low))
  added_along low (suc n) X =
      let f = λ (total : K) (k : ℕ). o.added total (price k) in
      added_next low (low + n) X (fold f amount (filter X (range_with_len low n))) (fold f amount (filter X (range_with_len low (suc n)))) (omega arith) (added_along low n X) (
      ap (λ xs. fold f amount (filter X xs)) (range_more low n)
      ∙ ap (fold f amount) (filter-append X (range_with_len low n) ((low + n) ∷ []))
      ∙ fold-append f amount (filter X (range_with_len low n)) (filter X ((low + n) ∷ []))
      ∙ one_more (X (low + n)) (low + n) (fold f amount (filter X (range_with_len low n)))
      ) ∙ ap (λ m. A m (from low X)) (omega arith) where
        range_more : (a n : ℕ) → range_with_len a (suc n) ≡ range_with_len a n ++ (a + n) ∷ []
        range_more a zero = ap (λ j. j ∷ []) (sym (add-zero a))
        range_more a (suc n) = ap (λ xs. a ∷ xs) (range_more (a + 1) n ∙ ap (λ j. range_with_len (a + 1) n ++ j ∷ []) (omega arith))

        one_more : (b : Bool) (k : ℕ) (x : K) → fold (λ total k. o.added total (price k)) x (cond b (k ∷ []) []) ≡ cond b (o.added x (price k)) x
        one_more true k x = refl
        one_more false k x = refl

  pub added_range : (low high : ℕ) (X : ℕ → Bool) → low ≤ high → fold (λ total k. o.added total (price k)) amount (filter X (range_with_len low (high - low))) ≡ A high (from low X)
  added_range low high X l = added_along low (high - low) X ∙ ap (λ n. A n (from low X)) (omega arith)

  pub added_same : (n : ℕ) (X Y : ℕ → Bool) → ((k : ℕ) → X k ≡ Y k) → A n X ≡ A n Y
  added_same zero X Y h = refl
  added_same (suc n) X Y h = ap (λ b. cond b (o.added (A n X) (price n)) (A n X)) (h n) ∙ ap (λ v. cond (Y n) (o.added v (price n)) v) (added_same n X Y h)

-- links of X are usable links of a lawful table and close no ring
module _ {K : Type 0} (o : Operations K) (laws : Laws o) (t : Table K) (lawful : Lawful o t) where
  abbrev C : (ℕ → Bool) → K
  C = cost_of o t

  pub usable_below : (k : ℕ) → T (usable t k) → k < link_count t
  usable_below k u = elim (dec_lt k (link_count t)) [
    | yes l ↦ l
    | no n ↦ absurd (subst (λ l. T (is_kept (role_in l) || is_free (role_in l))) (slice_get_past t.links k (past k (link_count t) n)) u)
  ] where
    past : (m n : ℕ) → (m < n → ⊥) → n ≤ m
    past m n h = omega arith

  -- a cost is the total of as many prices as the carried total and the set have
  pub cost_count : (n : ℕ) (S : ℕ → Bool) → Within S (usable t) → TotalOf o (lawful.carries + count S n) (cost o t.carried (price_of o t) n S)
  cost_count n S h = totals.cost_count o laws t.carried (price_of o t) (usable t) (priced o laws t lawful) n S h

  same : (S R : ℕ → Bool) → Within S R → Within R S → C S ≡ C R
  same S R f g = cost_same o laws t.carried (price_of o t) (usable t) (priced o laws t lawful) (link_count t) S R (λ k l. f k) (λ k l. g k)

  pub cost_same_sets : (S R : ℕ → Bool) → Within S R → Within R S → C S ≡ C R
  cost_same_sets S R f g = same S R f g

  -- one more link
  pub cost_with : (S : ℕ → Bool) (k : ℕ) → Within S (usable t) → T (usable t k) → (T (S k) → ⊥) → lawful.carries + count S (link_count t) < 1023 → o.added (C S) (price_of o t k) ≡ C (with_link S k)
  cost_with S k within u new few =
      let more : Within (with_link S k) (usable t) = λ j s. elim (with_cases S k j s) [ inl old ↦ within j old | inr q ↦ subst (λ i. T (usable t i)) (sym q) u ] in
      let apart = cost_without o laws t.carried (price_of o t) (usable t) (priced o laws t lawful) (link_count t) (with_link S k) k more (usable_below k u) (with_new S k) in
      let back = same (without_link (with_link S k) k) S (λ j s. elim (with_cases S k j (without_old (with_link S k) k j s)) [ inl old ↦ old | inr q ↦ absurd (without_apart (with_link S k) k j s q) ]) (λ j s. without_in (with_link S k) k j (with_old S k j s) (λ q. new (subst (λ i. T (S i)) q s))) in
      laws.exact (lawful.carries + count S (link_count t)) 1 (C S) (price_of o t k) (cost_count (link_count t) S within) (one (price_of o t k) ((priced o laws t lawful).priced k u)) (bound (lawful.carries + count S (link_count t)) few)
      ∙ sym (apart ∙ ap (λ v. o.plus v (price_of o t k)) back) where
        bound : (m : ℕ) → m < 1023 → m + 1 ≤ 1023
        bound m h = omega arith

  module _ (X : ℕ → Bool) (within : Within X (usable t)) (ring : NoRing (ends t) X) where
    pub count_tree : lawful.carries + count X (link_count t) < 1024
    count_tree =
        sums lawful.carries (count X (link_count t)) t.points
        (fewer (ends t) X t.points ring (λ k s. (on_points o laws t lawful).first_below k (within k s)) (λ k s. (on_points o laws t lawful).second_below k (within k s)) (on_points o laws t lawful).some (link_count t))
        lawful.bounded where
          sums : (a c p : ℕ) → c < p → a + p ≤ 1024 → a + c < 1024
          sums a c p l m = omega arith

    -- a part of X that lacks a link of X
    pub count_part : (S : ℕ → Bool) (k : ℕ) → Within S X → T (X k) → (T (S k) → ⊥) → lawful.carries + count S (link_count t) < 1023
    count_part S k part u new =
        sums lawful.carries (count S (link_count t)) (count X (link_count t))
        (count_less S X (link_count t) k (λ j l. part j) (usable_below k (within k u)) u new) count_tree where
          sums : (a c p : ℕ) → c < p → a + p < 1024 → a + c < 1023
          sums a c p l m = omega arith

    -- a part S with the links of X between two numbers
    abbrev joined : (ℕ → Bool) → ℕ → ℕ → ℕ → Bool
    joined S low high k = S k || between low high X k

    joined_cases : (S : ℕ → Bool) (low high k : ℕ) → T (joined S low high k) → T (S k) ⊎ T (between low high X k)
    joined_cases S low high k s = or_cases (S k) (between low high X k) s

    pub grown : (S : ℕ → Bool) (low high : ℕ) → Within S X → ((k : ℕ) → low ≤ k → k < high → T (S k) → ⊥) → added_cost o (C S) (price_of o t) high (from low X) ≡ C (joined S low high)
    grown S low zero part clear = same S (joined S low zero) (λ k s. or_left (S k) (between low zero X k) s) (λ k s. elim (joined_cases S low zero k s) [ inl old ↦ old | inr b ↦ absurd (let h = between_high low zero X k b in omega arith) ])
    grown S low (suc h) part clear =
        let rest = grown S low h part (λ k a b. clear k a (omega arith)) in
        elim (true_or (from low X h)) [
          | inl now ↦
              let u : T (X h) = from_old low X h now in
              let l : low ≤ h = from_low low X h now in
              let part' : Within (joined S low h) X = λ k s. elim (joined_cases S low h k s) [ inl old ↦ part k old | inr b ↦ between_old low h X k b ] in
              let new : T (joined S low h h) → ⊥ = λ s. elim (joined_cases S low h h s) [ inl old ↦ clear h l (omega arith) old | inr b ↦ (let m = between_high low h X h b in omega arith) ] in
              ap (λ b. cond b (o.added (added_cost o (C S) (price_of o t) h (from low X)) (price_of o t h)) (added_cost o (C S) (price_of o t) h (from low X))) (true_of (from low X h) now)
              ∙ ap (λ v. o.added v (price_of o t h)) rest
              ∙ cost_with (joined S low h) h (λ k s. within k (part' k s)) (within h u) new (count_part (joined S low h) h part' u new)
              ∙ same (with_link (joined S low h) h) (joined S low (suc h))
              (λ k s. elim (with_cases (joined S low h) h k s) [
                | inl old ↦ elim (joined_cases S low h k old) [
                  | inl a ↦ or_left (S k) (between low (suc h) X k) a
                  | inr b ↦ or_right (S k) (between low (suc h) X k) (between_in low (suc h) X k (between_low low h X k b) (let m = between_high low h X k b in omega arith) (between_old low h X k b))
                ]
                | inr q ↦ or_right (S k) (between low (suc h) X k) (between_in low (suc h) X k (omega arith) (omega arith) (subst (λ j. T (X j)) (sym q) u))
              ])
              (λ k s. elim (joined_cases S low (suc h) k s) [
                | inl a ↦ with_old (joined S low h) h k (or_left (S k) (between low h X k) a)
                | inr b ↦ elim (same_or k h) [
                  | inl q ↦ subst (λ j. T (with_link (joined S low h) h j)) (sym q) (with_new (joined S low h) h)
                  | inr apart ↦ with_old (joined S low h) h k (or_right (S k) (between low h X k) (between_in low h X k (between_low low (suc h) X k b) (let m = between_high low (suc h) X k b in omega arith) (between_old low (suc h) X k b)))
                ]
              ])
          | inr no-h ↦
              ap (λ b. cond b (o.added (added_cost o (C S) (price_of o t) h (from low X)) (price_of o t h)) (added_cost o (C S) (price_of o t) h (from low X))) (false_of (from low X h) no-h)
              ∙ rest
              ∙ same (joined S low h) (joined S low (suc h))
              (λ k s. elim (joined_cases S low h k s) [
                | inl a ↦ or_left (S k) (between low (suc h) X k) a
                | inr b ↦ or_right (S k) (between low (suc h) X k) (between_in low (suc h) X k (between_low low h X k b) (let m = between_high low h X k b in omega arith) (between_old low h X k b))
              ])
              (λ k s. elim (joined_cases S low (suc h) k s) [
                | inl a ↦ or_left (S k) (between low h X k) a
                | inr b ↦ elim (same_or k h) [
                  | inl q ↦ absurd (no-h (subst (λ j. T (from low X j)) q (from_in low X k (between_low low (suc h) X k b) (between_old low (suc h) X k b))))
                  | inr apart ↦ or_right (S k) (between low h X k) (between_in low h X k (between_low low (suc h) X k b) (let m = between_high low (suc h) X k b in omega arith) (between_old low (suc h) X k b))
                ]
              ])
        ]

pub cost_nothing : {K : Type 0} (o : Operations K) (t : Table K) (n : ℕ) → cost o t.carried (price_of o t) n (λ _. false) ≡ t.carried
cost_nothing o t zero = refl
cost_nothing o t (suc n) = cost_nothing o t n

-- the whole of a tree's links, from the carried total
module _ {K : Type 0} (o : Operations K) (t : Table K) (bits : List Bool) where
  pub total_added : length bits ≡ 2048 → (m : ℕ) → m ≡ min (link_count t) 2048 → added_cost o t.carried (price_of o t) m (from 0 (held bits)) ≡ added_cost_of o t (held bits)
  total_added long m end = added_same o t.carried (price_of o t) m (from 0 (held bits)) (held bits) (λ k. all (leb 0 k) (held bits k) (le→leb 0 k (omega arith))) ∙ sym (added_none o t.carried (price_of o t) (held bits) m (link_count t) (below m (link_count t) end) (λ k a b s. apart k m (link_count t) (length bits) end long a b (held_below bits k s))) where
    all : (a b : Bool) → T a → a && b ≡ b
    all true b t = refl
    all false b t = absurd t

    below : (m n : ℕ) → m ≡ min n 2048 → m ≤ n
    below m n e = omega arith

    apart : (k m n l : ℕ) → m ≡ min n 2048 → l ≡ 2048 → m ≤ k → k < n → k < l → ⊥
    apart k m n l e long a b c = omega arith

  pub total_from : length bits ≡ 2048 → (m n : ℕ) (x r : K) → m ≡ min n 2048 → n ≡ link_count t → x ≡ t.carried → r ≡ added_cost o x (price_of o t) m (from 0 (held bits)) → r ≡ added_cost_of o t (held bits)
  total_from long m n x r end lc is e = e ∙ ap (λ v. added_cost o v (price_of o t) m (from 0 (held bits))) is ∙ total_added long m (end ∙ ap (λ j. min j 2048) lc)

  pub total_exact : Laws o → Lawful o t → Within (held bits) (usable t) → NoRing (ends t) (held bits) → added_cost_of o t (held bits) ≡ cost_of o t (held bits)
  total_exact laws lawful within ring =
      let start : cost_of o t (λ _. false) ≡ t.carried = cost_nothing o t (link_count t) in
      let grow = grown o laws t lawful (held bits) within ring (λ _. false) 0 (link_count t) (λ k s. absurd s) (λ k a b s. s) in
      added_same o t.carried (price_of o t) (link_count t) (held bits) (from 0 (held bits)) (λ k. all (leb 0 k) (held bits k) (le→leb 0 k (omega arith)))
      ∙ ap (λ v. added_cost o v (price_of o t) (link_count t) (from 0 (held bits))) (sym start)
      ∙ grow
      ∙ cost_same_sets o laws t lawful (λ k. false || between 0 (link_count t) (held bits) k) (held bits) (λ k s. between_old 0 (link_count t) (held bits) k s) (λ k s. between_in 0 (link_count t) (held bits) k (omega arith) (usable_below o laws t lawful k (within k s)) s) where
        all : (a b : Bool) → T a → b ≡ a && b
        all true b t = refl
        all false b t = absurd t
