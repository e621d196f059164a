-- What is proved of joined points and of trees, as statements.
use Rattle.std.specs.Prelude.{◌≡◌, ℕ, ◌<◌, ◌≤◌, Bool, ◌||◌, T}
use Rattle.price.specs.Kind.{Operations}
use Rattle.spanning.specs.Closure.{label_of, are_joined, share_label, Closure, Finite}
use Rattle.spanning.specs.Contraction.{contracted, between, nothing_kept, and_kept, less_kept}
use Rattle.spanning.specs.Costs.{cost, Priced}
use Rattle.spanning.specs.Joined.{Graph, Joined, NoRing}
use Rattle.spanning.specs.Lawful.{LawfulTree, OnPoints, AllJoined}
use Rattle.spanning.specs.Sets.{with_link, without_link, count}
use Rattle.spanning.specs.Trees.{Ranked, Independent, greedy, Tree, Shown, OnPath, NoWorse, AtMostOneLeaves, LastOnPath, Rejoins, FirstToRejoin}

-- whether points are joined by a set of links is decided by computation
abbrev pub JoinedIsDecided : Type 0
JoinedIsDecided =
    (g : Graph) (n : ℕ) → Finite g n → (S : ℕ → Bool) (x y : ℕ) → (Joined g S x y → T (are_joined g n S x y)) × (T (are_joined g n S x y) → Joined g S x y)

-- Whether points are joined by a set of links is decided by the labels of their parts, and a label is the lowest point of its part.
pub record Labelled (g : Graph) (n : ℕ) (S : ℕ → Bool) (x : ℕ) : Type 0 where
  pub joined : (y : ℕ) → Joined g S x y → T (share_label g n S x y)
  pub sound : (y : ℕ) → T (share_label g n S x y) → Joined g S x y
  pub own : Joined g S x (label_of g n S x)
  pub lowest : (y : ℕ) → Joined g S x y → label_of g n S x ≤ y

abbrev pub LabelsDecide : Type 0
LabelsDecide = (g : Graph) (n : ℕ) → Finite g n → (S : ℕ → Bool) (x : ℕ) → Labelled g n S x

-- links that close no ring are fewer than the points that they are on
abbrev pub FewerThanPoints : Type 0
FewerThanPoints =
    (g : Graph) (points n : ℕ) (X : ℕ → Bool) → 0 < points → NoRing g X → ((k : ℕ) → T (X k) → g.first k < points) → ((k : ℕ) → T (X k) → g.second k < points) → count X n < points

-- graphs have the facts of a closure with exchange
abbrev pub GraphsClose : Type 0
GraphsClose = (g : Graph) (n : ℕ) → Finite g n → Closure (λ S e. are_joined g n S (g.first e) (g.second e))

-- if the kept links close no ring, there is exactly one tree shown, the greedy tree
abbrev pub OneTreeShown : Type 0
OneTreeShown =
    (in_span : (ℕ → Bool) → ℕ → Bool) → Closure in_span → (n : ℕ) (kept free : ℕ → Bool) (before : ℕ → ℕ → Bool) → Ranked n kept free before → Independent in_span kept free before kept
    → Tree in_span kept free before (greedy in_span kept free before)
    × Shown in_span kept free before (greedy in_span kept free before)
    × ((X : ℕ → Bool) → Tree in_span kept free before X → Shown in_span kept free before X → (k : ℕ) → X k ≡ greedy in_span kept free before k)

-- every tree costs at least as much as the greedy tree, in any order that never puts a dearer link first
abbrev pub GreedyIsLeast : {A : Type 0} → Operations A → Type 0
GreedyIsLeast {A} o =
    (in_span : (ℕ → Bool) → ℕ → Bool) → Closure in_span → (n : ℕ) (kept free : ℕ → Bool) (before : ℕ → ℕ → Bool) → Ranked n kept free before → Independent in_span kept free before kept
    → (carried : A) (price : ℕ → A) → Priced o carried price (λ k. kept k || free k)
    → ((a b : ℕ) → T (free a) → T (free b) → T (before a b) → T (o.not_above (price a) (price b)))
    → (X : ℕ → Bool) → Tree in_span kept free before X → T (o.not_above (cost o carried price n (greedy in_span kept free before)) (cost o carried price n X))

-- where one link is changed, at most one link leaves the greedy tree and at most one enters
abbrev pub OneExchange : Type 0
OneExchange =
    (in_span : (ℕ → Bool) → ℕ → Bool) → Closure in_span → (n e : ℕ) (kept free : ℕ → Bool) (before : ℕ → ℕ → Bool) (kept' free' : ℕ → Bool) (before' : ℕ → ℕ → Bool)
    → Ranked n kept free before → Ranked n kept' free' before' → NoWorse e kept free before kept' free' before'
    → AtMostOneLeaves (greedy in_span kept free before) (greedy in_span kept' free' before') × AtMostOneLeaves (greedy in_span kept' free' before') (greedy in_span kept free before)

-- A kind and a table, for what follows.
module _ {A : Type 0} (o : Operations A) (in_span : (ℕ → Bool) → ℕ → Bool) (n : ℕ) (kept free : ℕ → Bool) (before : ℕ → ℕ → Bool) (carried : A) (price : ℕ → A) where
  abbrev pub greedy_tree : ℕ → Bool
  greedy_tree = greedy in_span kept free before

  abbrev pub Trees : (ℕ → Bool) → Type 0
  Trees = Tree in_span kept free before

  abbrev pub tree_cost : (ℕ → Bool) → A
  tree_cost = cost o carried price n

  pub record Given : Type 0 where
    pub closed : Closure in_span
    pub ranked : Ranked n kept free before
    pub no_ring : Independent in_span kept free before kept
    pub priced : Priced o carried price (λ k. kept k || free k)
    pub cheap : (a b : ℕ) → T (free a) → T (free b) → T (before a b) → T (o.not_above (price a) (price b))

  -- a free link outside: the least tree that holds it has it in place of its support, and without a support no tree holds it
  pub record Holding (e : ℕ) : Type 0 where
    pub tree : (l : ℕ) → LastOnPath in_span kept free before greedy_tree e l → Trees (with_link (without_link greedy_tree l) e)
    pub least : (l : ℕ) → LastOnPath in_span kept free before greedy_tree e l → (X : ℕ → Bool) → Trees X → T (X e) → T (o.not_above (tree_cost (with_link (without_link greedy_tree l) e)) (tree_cost X))
    pub none : ((f : ℕ) → T (free f) → OnPath in_span kept free before greedy_tree e f → ⊥) → (X : ℕ → Bool) → Trees X → T (X e) → ⊥

  -- a free link in the tree: the least tree that lacks it has its support in its place, and without a support every tree holds it
  pub record Lacking (e : ℕ) : Type 0 where
    pub tree : (g : ℕ) → FirstToRejoin in_span kept free before greedy_tree e g → Trees (with_link (without_link greedy_tree e) g)
    pub least : (g : ℕ) → FirstToRejoin in_span kept free before greedy_tree e g → (X : ℕ → Bool) → Trees X → (T (X e) → ⊥) → T (o.not_above (tree_cost (with_link (without_link greedy_tree e) g)) (tree_cost X))
    pub all : ((g : ℕ) → Rejoins in_span kept free before greedy_tree e g → ⊥) → (X : ℕ → Bool) → Trees X → T (X e)

-- supports tell the least tree that holds a link, and the least that lacks one
abbrev pub SupportsTell : {A : Type 0} → Operations A → Type 0
SupportsTell {A} o =
    (in_span : (ℕ → Bool) → ℕ → Bool) (n : ℕ) (kept free : ℕ → Bool) (before : ℕ → ℕ → Bool) (carried : A) (price : ℕ → A) → Given o in_span n kept free before carried price
    → (e : ℕ) → T (free e)
    → ((T (greedy in_span kept free before e) → ⊥) → Holding o in_span n kept free before carried price e)
    × (T (greedy in_span kept free before e) → Lacking o in_span n kept free before carried price e)

-- Lawful trees exist exactly if the kept links close no ring and the links that are not barred join all points. Then the greedy tree is
-- one, and each costs at least as much: the least cost is within a budget exactly if some lawful tree's is.
module _ {A : Type 0} (o : Operations A) (g : Graph) (points n : ℕ) (kept free : ℕ → Bool) (before : ℕ → ℕ → Bool) (carried : A) (price : ℕ → A) where
  abbrev pub shown_tree : ℕ → Bool
  shown_tree = greedy (λ S e. are_joined g n S (g.first e) (g.second e)) kept free before

  pub record Verdicts (budget : A) : Type 0 where
    pub exists : NoRing g kept → AllJoined g points kept free → LawfulTree g points kept free shown_tree
    pub joined : (X : ℕ → Bool) → LawfulTree g points kept free X → AllJoined g points kept free
    pub no_ring : (X : ℕ → Bool) → LawfulTree g points kept free X → NoRing g kept
    pub least : (X : ℕ → Bool) → LawfulTree g points kept free X → T (o.not_above (cost o carried price n shown_tree) (cost o carried price n X))
    pub fits : (X : ℕ → Bool) → LawfulTree g points kept free X → T (o.not_above (cost o carried price n X) budget) → T (o.not_above (cost o carried price n shown_tree) budget)

abbrev pub VerdictsTell : {A : Type 0} → Operations A → Type 0
VerdictsTell {A} o =
    (g : Graph) (points n : ℕ) (kept free : ℕ → Bool) (before : ℕ → ℕ → Bool) (carried : A) (price : ℕ → A) (budget : A)
    → OnPoints g points n kept free → Ranked n kept free before → Priced o carried price (λ k. kept k || free k)
    → ((a b : ℕ) → T (free a) → T (free b) → T (before a b) → T (o.not_above (price a) (price b)))
    → T (o.budget budget) → Verdicts o g points n kept free before carried price budget

-- Contraction: with the kept links taken for granted, what is left is a closure again; its trees and its greedy tree are those below
-- without the kept links, and cost the same once the kept prices are carried.
module _ {A : Type 0} (o : Operations A) (in_span : (ℕ → Bool) → ℕ → Bool) (n : ℕ) (kept free : ℕ → Bool) (before : ℕ → ℕ → Bool) (carried : A) (price : ℕ → A) where
  pub record Contracts : Type 0 where
    pub closed : Closure (contracted in_span kept free)
    pub ranked : Ranked n nothing_kept (between in_span kept free) before
    pub tree_below : (X : ℕ → Bool) → Tree (contracted in_span kept free) nothing_kept (between in_span kept free) before X → Tree in_span kept free before (and_kept kept X)
    pub tree_above : (X : ℕ → Bool) → Tree in_span kept free before X → Tree (contracted in_span kept free) nothing_kept (between in_span kept free) before (less_kept kept X)
    pub greedy_above : (k : ℕ) → greedy (contracted in_span kept free) nothing_kept (between in_span kept free) before k ≡ less_kept kept (greedy in_span kept free before) k
    pub costs : (X : ℕ → Bool) → ((k : ℕ) → T (X k) → T (between in_span kept free k)) → cost o (cost o carried price n kept) price n X ≡ cost o carried price n (and_kept kept X)

abbrev pub ContractionKeeps : {A : Type 0} → Operations A → Type 0
ContractionKeeps {A} o =
    (in_span : (ℕ → Bool) → ℕ → Bool) (n : ℕ) (kept free : ℕ → Bool) (before : ℕ → ℕ → Bool) (carried : A) (price : ℕ → A) → Given o in_span n kept free before carried price
    → Contracts o in_span n kept free before carried price

-- Findings: a link is out if no tree within the budget holds it, and forced if every one does.
module _ {A : Type 0} (o : Operations A) (in_span : (ℕ → Bool) → ℕ → Bool) (n : ℕ) (kept free : ℕ → Bool) (before : ℕ → ℕ → Bool) (carried : A) (price : ℕ → A) (budget : A) where
  abbrev pub Within : (ℕ → Bool) → Type 0
  Within X = T (o.not_above (cost o carried price n X) budget)

  abbrev pub Out : ℕ → Type 0
  Out e = (X : ℕ → Bool) → Tree in_span kept free before X → Within X → T (X e) → ⊥

  abbrev pub Forced : ℕ → Type 0
  Forced e = (X : ℕ → Bool) → Tree in_span kept free before X → Within X → T (X e)

  -- the tree shown with one link in place of another
  abbrev pub exchanged_tree : ℕ → ℕ → ℕ → Bool
  exchanged_tree gone come = with_link (without_link (greedy in_span kept free before) gone) come

  -- where the tree shown is within the budget, one more cost tells each finding
  pub record Findings (e : ℕ) : Type 0 where
    pub outside : (T (greedy in_span kept free before e) → ⊥) → Forced e → ⊥
    pub not_out : (T (greedy in_span kept free before e) → ⊥) → (l : ℕ) → LastOnPath in_span kept free before (greedy in_span kept free before) e l → Within (exchanged_tree l e) → Out e → ⊥
    pub is_out : (T (greedy in_span kept free before e) → ⊥) → (l : ℕ) → LastOnPath in_span kept free before (greedy in_span kept free before) e l → (Within (exchanged_tree l e) → ⊥) → Out e
    pub out_alone : (T (greedy in_span kept free before e) → ⊥) → ((f : ℕ) → T (free f) → OnPath in_span kept free before (greedy in_span kept free before) e f → ⊥) → Out e
    pub inside : T (greedy in_span kept free before e) → Out e → ⊥
    pub not_forced : T (greedy in_span kept free before e) → (g : ℕ) → FirstToRejoin in_span kept free before (greedy in_span kept free before) e g → Within (exchanged_tree e g) → Forced e → ⊥
    pub is_forced : T (greedy in_span kept free before e) → (g : ℕ) → FirstToRejoin in_span kept free before (greedy in_span kept free before) e g → (Within (exchanged_tree e g) → ⊥) → Forced e
    pub forced_alone : T (greedy in_span kept free before e) → ((g : ℕ) → Rejoins in_span kept free before (greedy in_span kept free before) e g → ⊥) → Forced e

abbrev pub FindingsTell : {A : Type 0} → Operations A → Type 0
FindingsTell {A} o =
    (in_span : (ℕ → Bool) → ℕ → Bool) (n : ℕ) (kept free : ℕ → Bool) (before : ℕ → ℕ → Bool) (carried : A) (price : ℕ → A) → Given o in_span n kept free before carried price
    → (budget : A) → T (o.budget budget) → T (o.not_above (cost o carried price n (greedy in_span kept free before)) budget)
    → (e : ℕ) → T (free e) → Findings o in_span n kept free before carried price budget e
