-- The verdict: when lawful trees exist, and what the least of them costs.
use Rattle.std.proofs.Common.{◌≡◌, ℕ, Bool, ◌||◌, T, sym, ap, subst}
use Rattle.price.specs.Kind.{Operations, Laws, Compared}
use Rattle.price.specs.Kind.Compared.{total, limit}
use Rattle.spanning.specs.Closure.{share_label, Closure}
use Rattle.spanning.specs.Costs.{cost, Priced}
use Rattle.spanning.specs.Joined.{Graph, NoRing}
use Rattle.spanning.specs.Lawful.{LawfulTree, OnPoints, AllJoined}
use Rattle.spanning.specs.Laws.{shown_tree, Verdicts}
use Rattle.spanning.specs.Sets.{without_link}
use Rattle.spanning.specs.Trees.{Ranked, Tree, greedy}
use Rattle.spanning.proofs.LabelsDecide.{graph_closure, same_decided}
use Rattle.spanning.proofs.Greedy.{greedy_tree_lem}
use Rattle.spanning.proofs.LawfulTrees as lawful
use Rattle.spanning.proofs.Least.{least}
use Rattle.spanning.proofs.Totals.{cost_total}

-- what is true of lawful trees and of the greedy tree by labels
pub record VerdictsByLabels {A : Type 0} (o : Operations A) (g : Graph) (points n : ℕ) (kept free : ℕ → Bool) (carried : A) (price : ℕ → A) (budget : A) (G : ℕ → Bool) : Type 0 where
  pub exists : NoRing g kept → AllJoined g points kept free → LawfulTree g points kept free G
  pub joined : (X : ℕ → Bool) → LawfulTree g points kept free X → AllJoined g points kept free
  pub no_ring : (X : ℕ → Bool) → LawfulTree g points kept free X → NoRing g kept
  pub least : (X : ℕ → Bool) → LawfulTree g points kept free X → T (o.not_above (cost o carried price n G) (cost o carried price n X))
  pub fits : (X : ℕ → Bool) → LawfulTree g points kept free X → T (o.not_above (cost o carried price n X) budget) → T (o.not_above (cost o carried price n G) budget)

module _ {A : Type 0} (o : Operations A) (laws : Laws o) (g : Graph) (points n : ℕ) (kept free : ℕ → Bool) (before : ℕ → ℕ → Bool) (carried : A) (price : ℕ → A) (budget : A) (on : OnPoints g points n kept free) (ranked : Ranked n kept free before) (priced : Priced o carried price (λ k. kept k || free k)) (cheap : (a b : ℕ) → T (free a) → T (free b) → T (before a b) → T (o.not_above (price a) (price b))) (limited : T (o.budget budget)) where
  abbrev in_span : (ℕ → Bool) → ℕ → Bool
  in_span S e = share_label g n S (g.first e) (g.second e)

  abbrev G : ℕ → Bool
  G = greedy in_span kept free before

  abbrev C : (ℕ → Bool) → A
  C = cost o carried price n

  closed : Closure in_span
  closed = graph_closure g n on.finite

  tree_of : (X : ℕ → Bool) → LawfulTree g points kept free X → Tree in_span kept free before X
  tree_of = lawful.tree_from_lawful g points n kept free before on

  alone_of : (X : ℕ → Bool) → LawfulTree g points kept free X → (e : ℕ) → T (kept e) → T (in_span (without_link kept e) e) → ⊥
  alone_of X t = lawful.alone_kept g points n kept free before on (lawful.kept_no_ring g points n kept free before on X t)

  compared : (X : ℕ → Bool) → Tree in_span kept free before X → Compared o (C X)
  compared X tree = let t = cost_total o laws carried price (λ k. kept k || free k) priced n X tree.usable in total t.0 (C X) t.1

  least_of : (X : ℕ → Bool) → LawfulTree g points kept free X → T (o.not_above (C G) (C X))
  least_of X t = least in_span closed n kept free before ranked o laws carried price priced cheap (alone_of X t) X (tree_of X t)

  pub by_labels : VerdictsByLabels o g points n kept free carried price budget G
  by_labels = record {
    exists = λ ring all. lawful.lawful_from_tree g points n kept free before on all G (greedy_tree_lem in_span closed n kept free before ranked (lawful.alone_kept g points n kept free before on ring));
    joined = lawful.all_joined_lem g points n kept free before on;
    no_ring = lawful.kept_no_ring g points n kept free before on;
    least = least_of;
    fits = λ X t within. laws.transitive (C G) (C X) budget (compared G (greedy_tree_lem in_span closed n kept free before ranked (alone_of X t))) (compared X (tree_of X t)) (limit budget limited) (least_of X t) within;
  }

  -- the greedy tree is the same by either test
  same_tree : G ≡ shown_tree o g points n kept free before carried price
  same_tree = ap (λ (test : (ℕ → Bool) → ℕ → ℕ → Bool). greedy (λ S e. test S (g.first e) (g.second e)) kept free before) (sym (same_decided g n on.finite))

  pub verdicts : Verdicts o g points n kept free before carried price budget
  verdicts = record {
    exists = λ ring all. subst (LawfulTree g points kept free) same_tree (by_labels.exists ring all);
    joined = by_labels.joined;
    no_ring = by_labels.no_ring;
    least = λ X t. subst (λ Y. T (o.not_above (C Y) (C X))) same_tree (by_labels.least X t);
    fits = λ X t within. subst (λ Y. T (o.not_above (C Y) budget)) same_tree (by_labels.fits X t within);
  }
