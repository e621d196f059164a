-- What supports tell of costs.
use Rattle.std.proofs.Common.{◌≡◌, ℕ, Bool, ◌||◌, T, sym, subst, inl, inr}
use Rattle.price.specs.Kind.{Operations, Laws}
use Rattle.spanning.specs.Laws.{tree_cost, Given, Holding, Lacking}
use Rattle.spanning.specs.Sets.{with_link, without_link}
use Rattle.spanning.specs.Trees.{greedy}
use Rattle.spanning.proofs.Least.{least}
use Rattle.spanning.proofs.Subsets.{or_left, or_right, or_cases, with_cases, without_old}
use Rattle.spanning.proofs.Supports as supports
use Rattle.spanning.proofs.Totals.{cost_same}

module _ {A : Type 0} (o : Operations A) (laws : Laws o) (in_span : (ℕ → Bool) → ℕ → Bool) (n : ℕ) (kept free : ℕ → Bool) (before : ℕ → ℕ → Bool) (carried : A) (price : ℕ → A) (given : Given o in_span n kept free before carried price) where
  abbrev C : (ℕ → Bool) → A
  C = tree_cost o in_span n kept free before carried price

  -- equal sets cost the same
  same_cost : (X Y : ℕ → Bool) → ((k : ℕ) → X k ≡ Y k) → C X ≡ C Y
  same_cost X Y e = cost_same o laws carried price (λ k. kept k || free k) given.priced n X Y (λ k l t. subst T (e k) t) (λ k l t. subst T (sym (e k)) t)

  pub holding : (e : ℕ) → T (free e) → (T (greedy in_span kept free before e) → ⊥) → Holding o in_span n kept free before carried price e
  holding e fe out =
      let c = given.closed in
      let r = given.ranked in
      let alone = given.no_ring in
      let kept' = with_link kept e in
      let free' = without_link free e in
      record {
        tree = supports.holds_tree in_span c n kept free before r alone e fe out;
        least = λ l last X tree own.
            subst (λ v. T (o.not_above v (C X))) (same_cost (greedy in_span kept' free' before) (with_link (without_link (greedy in_span kept free before) l) e) (supports.holds_exchanged in_span c n kept free before r alone e fe out l last))
            (least in_span c n kept' free' before (supports.ranked' in_span c n kept free before r alone e fe out) o laws carried price
            (record {
              carries = given.priced.carries;
              total = given.priced.total;
              priced = λ k t. given.priced.priced k (elim (or_cases (kept' k) (free' k) t) [
                | inl s ↦ elim (with_cases kept e k s) [ inl u ↦ or_left (kept k) (free k) u | inr q ↦ or_right (kept k) (free k) (subst (λ j. T (free j)) (sym q) fe) ]
                | inr f ↦ or_right (kept k) (free k) (without_old free e k f)
              ]);
            })
            (λ a b fa fb. given.cheap a b (without_old free e a fa) (without_old free e b fb))
            (supports.alone' in_span c n kept free before r alone e fe out l last) X (supports.holding in_span c n kept free before r alone e fe out X tree own));
        none = supports.none_holds in_span c n kept free before r alone e fe out;
      }

  pub lacking : (e : ℕ) → T (free e) → T (greedy in_span kept free before e) → Lacking o in_span n kept free before carried price e
  lacking e fe own =
      let c = given.closed in
      let r = given.ranked in
      let alone = given.no_ring in
      let free'' = without_link free e in
      record {
        tree = supports.lacks_tree in_span c n kept free before r alone e fe own;
        least = λ g first X tree lacks.
            subst (λ v. T (o.not_above v (C X))) (same_cost (greedy in_span kept free'' before) (with_link (without_link (greedy in_span kept free before) e) g) (supports.lacks_exchanged in_span c n kept free before r alone e fe own g first))
            (least in_span c n kept free'' before (supports.ranked'' in_span c n kept free before r alone e fe own) o laws carried price
            (record {
              carries = given.priced.carries;
              total = given.priced.total;
              priced = λ k t. given.priced.priced k (elim (or_cases (kept k) (free'' k) t) [
                | inl s ↦ or_left (kept k) (free k) s
                | inr f ↦ or_right (kept k) (free k) (without_old free e k f)
              ]);
            })
            (λ a b fa fb. given.cheap a b (without_old free e a fa) (without_old free e b fb))
            alone X (supports.lacking in_span c n kept free before r alone e fe own X tree lacks));
        all = supports.all_hold in_span c n kept free before r alone e fe own;
      }
