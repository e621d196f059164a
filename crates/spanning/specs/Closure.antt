-- The four facts about spanning from which the rest follows: a closure with exchange, tested by computation.
use Rattle.std.specs.Prelude.{◌≡◌, ℕ, zero, suc, ◌≤◌, min, max, Bool, cond, ◌&&◌, ◌||◌, T, ◌⊎◌, ◌==◌}
use Rattle.spanning.specs.Joined.{Graph}
use Rattle.spanning.specs.Sets.{with_link}

-- whether links of S below m join two points: either without the last of these links, or once along it
abbrev pub are_joined : Graph → ℕ → (ℕ → Bool) → ℕ → ℕ → Bool
are_joined g zero S x y = x == y
are_joined g (suc m) S x y =
    are_joined g m S x y
    || (S m && ((are_joined g m S x (g.first m) && are_joined g m S (g.second m) y) || (are_joined g m S x (g.second m) && are_joined g m S (g.first m) y)))

-- labels, one of them in place of another
abbrev pub relabelled : (ℕ → ℕ) → ℕ → ℕ → ℕ → ℕ
relabelled label low high x = cond (label x == high) low (label x)

-- The label of a point's part: the lowest point that links of S below m join to it. The links are taken one by one, and each gives the
-- parts of both its ends the lower label of the two.
abbrev pub label_of : Graph → ℕ → (ℕ → Bool) → ℕ → ℕ
label_of g zero S x = x
label_of g (suc m) S x =
    let L = label_of g m S in
    cond (S m) (relabelled L (min (L (g.first m)) (L (g.second m))) (max (L (g.first m)) (L (g.second m))) x) (L x)

-- the same by labels: whether the parts of two points have one label
abbrev pub share_label : Graph → ℕ → (ℕ → Bool) → ℕ → ℕ → Bool
share_label g m S x y = label_of g m S x == label_of g m S y

-- A test of which links a set spans.
pub record Closure (in_span : (ℕ → Bool) → ℕ → Bool) : Type 0 where
  pub holds : (S : ℕ → Bool) (e : ℕ) → T (S e) → T (in_span S e)
  pub grows : (S R : ℕ → Bool) → ((e : ℕ) → T (S e) → T (in_span R e)) → (f : ℕ) → T (in_span S f) → T (in_span R f)
  pub exchange : (S : ℕ → Bool) (e f : ℕ) → T (in_span (with_link S e) f) → T (in_span S f) ⊎ T (in_span (with_link S f) e)

-- links past the count join a point to itself
abbrev pub Finite : Graph → ℕ → Type 0
Finite g n = (e : ℕ) → n ≤ e → g.first e ≡ g.second e
