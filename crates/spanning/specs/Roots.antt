-- A forest of parents: each point's parent is no higher than the point, and a root is its own parent.
use Rattle.std.specs.Prelude.{◌≡◌, ℕ, zero, suc, ◌<◌, ◌≤◌, Bool, cond, List, length, ◌==◌, slice_index}
use Rattle.spanning.specs.Joined.{Graph, Joined}

abbrev pub Forest : List ℕ → Type 0
Forest ps = (x : ℕ) → slice_index ps x ≤ x

-- so many steps up
abbrev pub steps_up : ℕ → List ℕ → ℕ → ℕ
steps_up zero ps x = x
steps_up (suc n) ps x = steps_up n ps (slice_index ps x)

-- the root above a point, which is the lowest point of its part; x steps reach it
abbrev pub root_of : List ℕ → ℕ → ℕ
root_of ps x = steps_up x ps x

-- the roots after one part is put under another's root
abbrev pub under : List ℕ → ℕ → ℕ → ℕ → ℕ
under ps low high z = cond (root_of ps z == high) low (root_of ps z)

-- two points have one root exactly if links of S join them
abbrev pub Represents : List ℕ → Graph → (ℕ → Bool) → Type 0
Represents ps g S = (x y : ℕ) → x < length ps → y < length ps → (root_of ps x ≡ root_of ps y → Joined g S x y) × (Joined g S x y → root_of ps x ≡ root_of ps y)
