-- Lawful trees are the trees of the closure, where all points can be joined; and else there are none.
use Rattle.std.proofs.Common.{ℕ, Bool, ◌||◌, T}
use Rattle.spanning.specs.Closure.{share_label}
use Rattle.spanning.specs.Joined.{Graph, Spans, NoRing}
use Rattle.spanning.specs.Lawful.{LawfulTree, OnPoints, AllJoined}
use Rattle.spanning.specs.Sets.{without_link}
use Rattle.spanning.specs.Trees.{Tree}
use Rattle.spanning.proofs.Chains.{join, turn, grown, wider}
use Rattle.spanning.proofs.LabelsDecide.{joined_is, is_joined}
use Rattle.spanning.proofs.Subsets.{without_in, without_old, without_apart}

module _ (g : Graph) (points n : ℕ) (kept free : ℕ → Bool) (before : ℕ → ℕ → Bool) (on : OnPoints g points n kept free) where
  -- which links a set spans
  abbrev pub is_spanned : (ℕ → Bool) → ℕ → Bool
  is_spanned S e = share_label g n S (g.first e) (g.second e)

  to_test : (S : ℕ → Bool) (e : ℕ) → Spans g S e → T (is_spanned S e)
  to_test S e c = joined_is g n on.finite S (g.first e) (g.second e) c

  from_test : (S : ℕ → Bool) (e : ℕ) → T (is_spanned S e) → Spans g S e
  from_test S e t = is_joined g n on.finite S (g.first e) (g.second e) t

  pub tree_from_lawful : (X : ℕ → Bool) → LawfulTree g points kept free X → Tree is_spanned kept free before X
  tree_from_lawful X lawful = record {
    independent = λ e t s. lawful.no_ring e t (from_test (without_link X e) e s);
    holds_kept = lawful.holds_kept;
    usable = lawful.no_barred;
    spans = λ k t. to_test X k (join g X (g.first k) 0 (g.second k) (turn g X 0 (g.first k) (lawful.joins_all (g.first k) (on.first_below k t))) (lawful.joins_all (g.second k) (on.second_below k t)));
  }

  pub lawful_from_tree : AllJoined g points kept free → (X : ℕ → Bool) → Tree is_spanned kept free before X → LawfulTree g points kept free X
  lawful_from_tree all X tree = record {
    joins_all = λ x l. grown g (λ k. kept k || free k) X (λ e t. from_test X e (tree.spans e t)) 0 x (all x l);
    no_ring = λ e t c. tree.independent e t (to_test (without_link X e) e c);
    holds_kept = tree.holds_kept;
    no_barred = tree.usable;
  }

  -- a lawful tree joins all points by links that are not barred
  pub all_joined_lem : (X : ℕ → Bool) → LawfulTree g points kept free X → AllJoined g points kept free
  all_joined_lem X lawful x l = wider g X (λ k. kept k || free k) lawful.no_barred 0 x (lawful.joins_all x l)

  -- and holds no ring of kept links
  pub kept_no_ring : (X : ℕ → Bool) → LawfulTree g points kept free X → NoRing g kept
  kept_no_ring X lawful e t c = lawful.no_ring e (lawful.holds_kept e t) (wider g (without_link kept e) (without_link X e) (λ k s. without_in X e k (lawful.holds_kept k (without_old kept e k s)) (without_apart kept e k s)) (g.first e) (g.second e) c)

  pub alone_kept : NoRing g kept → (e : ℕ) → T (kept e) → T (is_spanned (without_link kept e) e) → ⊥
  alone_kept ring e t s = ring e t (from_test (without_link kept e) e s)
