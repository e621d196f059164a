-- Whether points are joined is decided by computation, and graphs have the four facts.
use Rattle.std.proofs.Common.{◌≡◌, ℕ, zero, suc, ◌<◌, Bool, ◌&&◌, ◌||◌, T, eqb, ltb, sym, refl, subst, inl, inr, arith, eqb→eq, ltb→lt, lt→ltb}
use native.Mathlib.Decide.{dec_lt}
use lib.Dec.{eqb_refl}
use Rattle.spanning.specs.Joined.{Graph, Joined, Spans}
use Rattle.spanning.specs.Joined.Joined.{same, forth, back}
use Rattle.spanning.specs.Closure.{are_joined, Closure, Finite}
use Rattle.spanning.specs.Sets.{with_link}
use Rattle.spanning.proofs.Subsets.{or_left, or_right, or_cases, and_both, and_left, and_right, with_old, with_new, Within, same_or, true_or}
use Rattle.spanning.proofs.Chains.{join, spans_own, grown, wider, split, exchanged, Split}
use Rattle.spanning.proofs.Chains.Split.{around, across, against}

-- the links of S below m
abbrev pub under : ℕ → (ℕ → Bool) → ℕ → Bool
under m S k = S k && ltb k m

module _ (g : Graph) where
  under_in : (m : ℕ) (S : ℕ → Bool) (k : ℕ) → T (S k) → k < m → T (under m S k)
  under_in m S k t h = and_both (S k) (ltb k m) t (lt→ltb k m h)

  under_less : (m : ℕ) (S : ℕ → Bool) (k : ℕ) → T (under m S k) → k < m
  under_less m S k t = ltb→lt k m (and_right (S k) (ltb k m) t)

  under_old : (m : ℕ) (S : ℕ → Bool) (k : ℕ) → T (under m S k) → T (S k)
  under_old m S k t = and_left (S k) (ltb k m) t

  under_more : (m : ℕ) (S : ℕ → Bool) → Within (under m S) (under (suc m) S)
  under_more m S k t = under_in (suc m) S k (under_old m S k t) (let h = under_less m S k t in omega arith)

  -- one step of the test, by the chain that it finds
  module _ (m : ℕ) (S : ℕ → Bool) (x y : ℕ) where
    step_across : T (S m) → Joined g (under m S) x (g.first m) → Joined g (under m S) (g.second m) y → Joined g (under (suc m) S) x y
    step_across t b c =
        let wide = wider g (under m S) (under (suc m) S) (under_more m S) in
        let here = under_in (suc m) S m t (omega arith) in
        join g (under (suc m) S) x (g.second m) y (forth x m here (wide x (g.first m) b)) (wide (g.second m) y c)

    step_against : T (S m) → Joined g (under m S) x (g.second m) → Joined g (under m S) (g.first m) y → Joined g (under (suc m) S) x y
    step_against t b c =
        let wide = wider g (under m S) (under (suc m) S) (under_more m S) in
        let here = under_in (suc m) S m t (omega arith) in
        join g (under (suc m) S) x (g.first m) y (back x m here (wide x (g.second m) b)) (wide (g.first m) y c)

  pub joined_sound : (m : ℕ) (S : ℕ → Bool) (x y : ℕ) → T (are_joined g m S x y) → Joined g (under m S) x y
  joined_sound zero S x y t = subst (λ z. Joined g (under zero S) x z) (eqb→eq x y t) (same x)
  joined_sound (suc m) S x y t =
      let one = are_joined g m S x (g.first m) in
      let two = are_joined g m S (g.second m) y in
      let three = are_joined g m S x (g.second m) in
      let four = are_joined g m S (g.first m) y in
      elim (or_cases (are_joined g m S x y) (S m && ((one && two) || (three && four))) t) [
        | inl s ↦ wider g (under m S) (under (suc m) S) (under_more m S) x y (joined_sound m S x y s)
        | inr r ↦
            let own = and_left (S m) ((one && two) || (three && four)) r in
            elim (or_cases (one && two) (three && four) (and_right (S m) ((one && two) || (three && four)) r)) [
              | inl p ↦ step_across m S x y own (joined_sound m S x (g.first m) (and_left one two p)) (joined_sound m S (g.second m) y (and_right one two p))
              | inr p ↦ step_against m S x y own (joined_sound m S x (g.second m) (and_left three four p)) (joined_sound m S (g.first m) y (and_right three four p))
            ]
      ]

  -- the links below m + 1 are those below m, and m
  under_with : (m : ℕ) (S : ℕ → Bool) → Within (under (suc m) S) (with_link (under m S) m)
  under_with m S k t =
      elim (same_or k m) [
        | inl q ↦ subst (λ j. T (with_link (under m S) m j)) (sym q) (with_new (under m S) m)
        | inr apart ↦
            let less = under_less (suc m) S k t in
            with_old (under m S) m k (under_in m S k (under_old (suc m) S k t) (omega arith))
      ]

  -- and if m is not in S, only those
  under_only : (m : ℕ) (S : ℕ → Bool) → (T (S m) → ⊥) → Within (under (suc m) S) (under m S)
  under_only m S not k t =
      elim (same_or k m) [
        | inl q ↦ absurd (not (subst (λ j. T (S j)) q (under_old (suc m) S k t)))
        | inr apart ↦ let less = under_less (suc m) S k t in under_in m S k (under_old (suc m) S k t) (omega arith)
      ]

  complete_by : (m : ℕ) (S : ℕ → Bool) (x y : ℕ) → ((v w : ℕ) → Joined g (under m S) v w → T (are_joined g m S v w)) → T (S m) → Split g (under m S) m x y → T (are_joined g (suc m) S x y)
  complete_by m S x y h t (around c) = or_left (are_joined g m S x y) _ (h x y c)
  complete_by m S x y h t (across b c) =
      let one = are_joined g m S x (g.first m) in
      let two = are_joined g m S (g.second m) y in
      let three = are_joined g m S x (g.second m) in
      let four = are_joined g m S (g.first m) y in
      or_right (are_joined g m S x y) (S m && ((one && two) || (three && four))) (and_both (S m) ((one && two) || (three && four)) t
      (or_left (one && two) (three && four) (and_both one two (h x (g.first m) b) (h (g.second m) y c))))
  complete_by m S x y h t (against b c) =
      let one = are_joined g m S x (g.first m) in
      let two = are_joined g m S (g.second m) y in
      let three = are_joined g m S x (g.second m) in
      let four = are_joined g m S (g.first m) y in
      or_right (are_joined g m S x y) (S m && ((one && two) || (three && four))) (and_both (S m) ((one && two) || (three && four)) t
      (or_right (one && two) (three && four) (and_both three four (h x (g.second m) b) (h (g.first m) y c))))

  none_under : (S : ℕ → Bool) (x y : ℕ) → Joined g (under zero S) x y → x ≡ y
  none_under S x y (same w) = refl
  none_under S x y (forth w e t c) = absurd (let less = under_less zero S e t in omega arith)
  none_under S x y (back w e t c) = absurd (let less = under_less zero S e t in omega arith)

  pub joined_complete : (m : ℕ) (S : ℕ → Bool) (x y : ℕ) → Joined g (under m S) x y → T (are_joined g m S x y)
  joined_complete zero S x y c = subst (λ z. T (eqb x z)) (none_under S x y c) (eqb_refl x)
  joined_complete (suc m) S x y c =
      elim (true_or (S m)) [
        | inl t ↦ complete_by m S x y (joined_complete m S) t (split g (under m S) m x y (wider g (under (suc m) S) (with_link (under m S) m) (under_with m S) x y c))
        | inr not ↦ or_left (are_joined g m S x y) _ (joined_complete m S x y (wider g (under (suc m) S) (under m S) (under_only m S not) x y c))
      ]

  -- a graph of n links
  module _ (n : ℕ) (finite : Finite g n) where
    all_under : (S : ℕ → Bool) (e : ℕ) → T (S e) → Spans g (under n S) e
    all_under S e t =
        elim (dec_lt e n) [
          | yes h ↦ spans_own g (under n S) e (under_in n S e t h)
          | no h ↦ subst (λ z. Joined g (under n S) (g.first e) z) (finite e (omega arith)) (same (g.first e))
        ]

    pub joined_is : (S : ℕ → Bool) (x y : ℕ) → Joined g S x y → T (are_joined g n S x y)
    joined_is S x y c = joined_complete n S x y (grown g S (under n S) (all_under S) x y c)

    pub is_joined : (S : ℕ → Bool) (x y : ℕ) → T (are_joined g n S x y) → Joined g S x y
    is_joined S x y t = wider g (under n S) S (under_old n S) x y (joined_sound n S x y t)

    -- the four facts
    pub graph_closure : Closure (λ S e. are_joined g n S (g.first e) (g.second e))
    graph_closure = record {
      holds = λ S e t. joined_is S (g.first e) (g.second e) (spans_own g S e t);
      grows = λ S R h f t. joined_is R (g.first f) (g.second f) (grown g S R (λ e s. is_joined R (g.first e) (g.second e) (h e s)) (g.first f) (g.second f) (is_joined S (g.first f) (g.second f) t));
      exchange = λ S e f t. elim (exchanged g S e f (is_joined (with_link S e) (g.first f) (g.second f) t)) [
        | inl c ↦ inl (joined_is S (g.first f) (g.second f) c)
        | inr c ↦ inr (joined_is (with_link S f) (g.first e) (g.second e) c)
      ];
    }
