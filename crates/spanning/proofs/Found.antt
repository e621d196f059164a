-- Findings by one more cost.
use Rattle.std.proofs.Common.{◌≡◌, ℕ, Bool, ◌||◌, T, sym, refl, subst, inl, inr}
use Rattle.price.specs.Kind.{Operations, Laws, Compared}
use Rattle.price.specs.Kind.Compared.{total, limit}
use Rattle.spanning.specs.Costs.{cost}
use Rattle.spanning.specs.Laws.{Given, Findings}
use Rattle.spanning.specs.Sets.{with_link, without_link}
use Rattle.spanning.specs.Trees.{greedy, Tree}
use Rattle.spanning.proofs.Greedy.{greedy_tree_lem}
use Rattle.spanning.proofs.Subsets.{true_or, with_new, with_cases, without_apart}
use Rattle.spanning.proofs.Told as told
use Rattle.spanning.proofs.Totals.{cost_total}

module _ {A : Type 0} (o : Operations A) (laws : Laws o) (in_span : (ℕ → Bool) → ℕ → Bool) (n : ℕ) (kept free : ℕ → Bool) (before : ℕ → ℕ → Bool) (carried : A) (price : ℕ → A) (given : Given o in_span n kept free before carried price) (budget : A) (limited : T (o.budget budget)) (fits : T (o.not_above (cost o carried price n (greedy in_span kept free before)) budget)) where
  abbrev G : ℕ → Bool
  G = greedy in_span kept free before

  abbrev C : (ℕ → Bool) → A
  C = cost o carried price n

  abbrev Tr : (ℕ → Bool) → Type 0
  Tr = Tree in_span kept free before

  tree_g : Tr G
  tree_g = greedy_tree_lem in_span given.closed n kept free before given.ranked given.no_ring

  compared : (X : ℕ → Bool) → Tr X → Compared o (C X)
  compared X tree = let t = cost_total o laws carried price (λ k. kept k || free k) given.priced n X tree.usable in total t.0 (C X) t.1

  -- what is no dearer than a tree within the budget is within it
  within : (X Y : ℕ → Bool) → Tr X → Tr Y → T (o.not_above (C X) (C Y)) → T (o.not_above (C Y) budget) → T (o.not_above (C X) budget)
  within X Y tx ty p q = laws.transitive (C X) (C Y) budget (compared X tx) (compared Y ty) (limit budget limited) p q

  gone_link : (e g : ℕ) → T (G e) → (g ≡ e → ⊥) → T (with_link (without_link G e) g e) → ⊥
  gone_link e g own apart t = elim (with_cases (without_link G e) g e t) [
    | inl s ↦ without_apart G e e s refl
    | inr q ↦ apart (sym q)
  ]

  pub findings : (e : ℕ) → T (free e) → Findings o in_span n kept free before carried price budget e
  findings e fe = record {
    outside = λ out forced. out (forced G tree_g fits);
    not_out = λ out l last cheap is-out. is-out (with_link (without_link G l) e) ((told.holding o laws in_span n kept free before carried price given e fe out).tree l last) cheap (with_new (without_link G l) e);
    is_out = λ out l last dear X tree fit own.
        let h = told.holding o laws in_span n kept free before carried price given e fe out in
        dear (within (with_link (without_link G l) e) X (h.tree l last) tree (h.least l last X tree own) fit);
    out_alone = λ out none X tree fit own. (told.holding o laws in_span n kept free before carried price given e fe out).none none X tree own;
    inside = λ own is-out. is-out G tree_g fits own;
    not_forced = λ own g first cheap forced.
        let h = told.lacking o laws in_span n kept free before carried price given e fe own in
        gone_link e g own (λ q. first.rejoins.1 (subst (λ j. T (G j)) (sym q) own)) (forced (with_link (without_link G e) g) (h.tree g first) cheap);
    is_forced = λ own g first dear X tree fit. elim (true_or (X e)) [
      | inl t ↦ t
      | inr lacks ↦ absurd (
          let h = told.lacking o laws in_span n kept free before carried price given e fe own in
          dear (within (with_link (without_link G e) g) X (h.tree g first) tree (h.least g first X tree lacks) fit))
    ];
    forced_alone = λ own none X tree fit. (told.lacking o laws in_span n kept free before carried price given e fe own).all none X tree;
  }
