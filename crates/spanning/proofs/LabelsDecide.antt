-- Whether points are joined is decided by the labels of their parts, and graphs have the four facts.
use Rattle.std.proofs.Common.{◌≡◌, ℕ, zero, suc, ◌<◌, min, max, Bool, true, false, cond, ◌&&◌, T, eqb, ltb, sym, refl, ap, ◌∙◌, subst, inl, inr, arith, eqb→eq, ltb→lt, lt→ltb}
use mathlib.Core.Path.{fun_ext}
use native.Mathlib.Decide.{dec_lt}
use lib.Dec.{eqb_refl}
use Rattle.spanning.specs.Joined.{Graph, Joined, Spans}
use Rattle.spanning.specs.Joined.Joined.{same, forth, back}
use Rattle.spanning.specs.Closure.{relabelled, label_of, are_joined, share_label, Closure, Finite}
use Rattle.spanning.specs.Sets.{with_link}
use Rattle.spanning.proofs.Subsets.{and_both, and_left, and_right, with_old, with_new, with_cases, Within, same_or, same_test, true_or}
use Rattle.spanning.proofs.Chains.{spans_own, grown, wider, exchanged}
use Rattle.spanning.proofs.Decided as decided
use Rattle.spanning.proofs.Labels.{Tells, tells_more}

-- the links of S below m
abbrev pub under : ℕ → (ℕ → Bool) → ℕ → Bool
under m S k = S k && ltb k m

true_is : (b : Bool) → T b → b ≡ true
true_is true t = refl
true_is false t = absurd t

false_is : (b : Bool) → (T b → ⊥) → b ≡ false
false_is true n = absurd (n tt)
false_is false n = refl

eq→eqb : (x y : ℕ) → x ≡ y → T (eqb x y)
eq→eqb x y e = subst (λ z. T (eqb x z)) e (eqb_refl x)

module _ (g : Graph) where
  pub under_in : (m : ℕ) (S : ℕ → Bool) (k : ℕ) → T (S k) → k < m → T (under m S k)
  under_in m S k t h = and_both (S k) (ltb k m) t (lt→ltb k m h)

  pub under_less : (m : ℕ) (S : ℕ → Bool) (k : ℕ) → T (under m S k) → k < m
  under_less m S k t = ltb→lt k m (and_right (S k) (ltb k m) t)

  pub under_old : (m : ℕ) (S : ℕ → Bool) (k : ℕ) → T (under m S k) → T (S k)
  under_old m S k t = and_left (S k) (ltb k m) t

  under_more : (m : ℕ) (S : ℕ → Bool) → Within (under m S) (under (suc m) S)
  under_more m S k t = under_in (suc m) S k (under_old m S k t) (let h = under_less m S k t in omega arith)

  -- the links below m + 1 are those below m, and m
  under_with : (m : ℕ) (S : ℕ → Bool) → Within (under (suc m) S) (with_link (under m S) m)
  under_with m S k t =
      elim (same_or k m) [
        | inl q ↦ subst (λ j. T (with_link (under m S) m j)) (sym q) (with_new (under m S) m)
        | inr apart ↦
            let less = under_less (suc m) S k t in
            with_old (under m S) m k (under_in m S k (under_old (suc m) S k t) (omega arith))
      ]

  with_under : (m : ℕ) (S : ℕ → Bool) → T (S m) → Within (with_link (under m S) m) (under (suc m) S)
  with_under m S own k t =
      elim (with_cases (under m S) m k t) [
        | inl s ↦ under_more m S k s
        | inr q ↦ subst (λ j. T (under (suc m) S j)) (sym q) (under_in (suc m) S m own (omega arith))
      ]

  -- and if m is not in S, only those
  under_only : (m : ℕ) (S : ℕ → Bool) → (T (S m) → ⊥) → Within (under (suc m) S) (under m S)
  under_only m S not k t =
      elim (same_or k m) [
        | inl q ↦ absurd (not (subst (λ j. T (S j)) q (under_old (suc m) S k t)))
        | inr apart ↦ let less = under_less (suc m) S k t in under_in m S k (under_old (suc m) S k t) (omega arith)
      ]

  none_under : (S : ℕ → Bool) (x y : ℕ) → Joined g (under zero S) x y → x ≡ y
  none_under S x y (same w) = refl
  none_under S x y (forth w e t c) = absurd (let less = under_less zero S e t in omega arith)
  none_under S x y (back w e t c) = absurd (let less = under_less zero S e t in omega arith)

  -- a link of S is taken, another left
  abbrev after_link : ℕ → (ℕ → Bool) → ℕ → ℕ
  after_link m S = relabelled (label_of g m S) (min (label_of g m S (g.first m)) (label_of g m S (g.second m))) (max (label_of g m S (g.first m)) (label_of g m S (g.second m)))

  pub taken : (m : ℕ) (S : ℕ → Bool) → T (S m) → (z : ℕ) → label_of g (suc m) S z ≡ after_link m S z
  taken m S t z = ap (λ b. cond b (after_link m S z) (label_of g m S z)) (true_is (S m) t)

  pub left : (m : ℕ) (S : ℕ → Bool) → (T (S m) → ⊥) → (z : ℕ) → label_of g (suc m) S z ≡ label_of g m S z
  left m S n z = ap (λ b. cond b (after_link m S z) (label_of g m S z)) (false_is (S m) n)

  pub labels_tell : (m : ℕ) (S : ℕ → Bool) → Tells (λ x. T true) (label_of g m S) g (under m S)
  labels_tell zero S x y p q = ((λ e. subst (λ z. Joined g (under zero S) x z) e (same x)), none_under S x y)
  labels_tell (suc m) S x y p q =
      elim (true_or (S m)) [
        | inl t ↦
            let both = tells_more (λ z. T true) (label_of g m S) g (under m S) m tt tt (labels_tell m S) x y p q in (
              (λ e. wider g (with_link (under m S) m) (under (suc m) S) (with_under m S t) x y (both.0 (sym (taken m S t x) ∙ e ∙ taken m S t y))),
              (λ d. taken m S t x ∙ both.1 (wider g (under (suc m) S) (with_link (under m S) m) (under_with m S) x y d) ∙ sym (taken m S t y)),
            )
        | inr not ↦
            let both = labels_tell m S x y p q in (
              (λ e. wider g (under m S) (under (suc m) S) (under_more m S) x y (both.0 (sym (left m S not x) ∙ e ∙ left m S not y))),
              (λ d. left m S not x ∙ both.1 (wider g (under (suc m) S) (under m S) (under_only m S not) x y d) ∙ sym (left m S not y)),
            )
      ]

  -- a graph of n links
  module _ (n : ℕ) (finite : Finite g n) where
    all_under : (S : ℕ → Bool) (e : ℕ) → T (S e) → Spans g (under n S) e
    all_under S e t =
        elim (dec_lt e n) [
          | yes h ↦ spans_own g (under n S) e (under_in n S e t h)
          | no h ↦ subst (λ z. Joined g (under n S) (g.first e) z) (finite e (omega arith)) (same (g.first e))
        ]

    pub joined_is : (S : ℕ → Bool) (x y : ℕ) → Joined g S x y → T (share_label g n S x y)
    joined_is S x y c = eq→eqb (label_of g n S x) (label_of g n S y) ((labels_tell n S x y tt tt).1 (grown g S (under n S) (all_under S) x y c))

    pub is_joined : (S : ℕ → Bool) (x y : ℕ) → T (share_label g n S x y) → Joined g S x y
    is_joined S x y t = wider g (under n S) S (under_old n S) x y ((labels_tell n S x y tt tt).0 (eqb→eq (label_of g n S x) (label_of g n S y) t))

    -- the four facts
    pub graph_closure : Closure (λ S e. share_label g n S (g.first e) (g.second e))
    graph_closure = record {
      holds = λ S e t. joined_is S (g.first e) (g.second e) (spans_own g S e t);
      grows = λ S R h f t. joined_is R (g.first f) (g.second f) (grown g S R (λ e s. is_joined R (g.first e) (g.second e) (h e s)) (g.first f) (g.second f) (is_joined S (g.first f) (g.second f) t));
      exchange = λ S e f t. elim (exchanged g S e f (is_joined (with_link S e) (g.first f) (g.second f) t)) [
        | inl c ↦ inl (joined_is S (g.first f) (g.second f) c)
        | inr c ↦ inr (joined_is (with_link S f) (g.first e) (g.second e) c)
      ];
    }

    -- both tests of whether points are joined are one
    pub same_decided : are_joined g n ≡ share_label g n
    same_decided = fun_ext (λ S. fun_ext (λ x. fun_ext (λ y.
        same_test (are_joined g n S x y) (share_label g n S x y)
        (λ t. joined_is S x y (decided.is_joined g n finite S x y t))
        (λ t. decided.joined_is g n finite S x y (is_joined S x y t)))))
