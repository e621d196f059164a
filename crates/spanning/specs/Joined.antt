-- Points that links join.
use Rattle.std.specs.Prelude.{ℕ, Bool, T}
use Rattle.spanning.specs.Sets.{without_link}

-- the two ends of each link
pub record Graph : Type 0 where
  pub first : ℕ → ℕ
  pub second : ℕ → ℕ

-- a chain of links of S leads from x to y, either way along each
pub data Joined (g : Graph) (S : ℕ → Bool) : ℕ → ℕ → Type 0 where
  same : (x : ℕ) → Joined g S x x
  forth : (x e : ℕ) → T (S e) → Joined g S x (g.first e) → Joined g S x (g.second e)
  back : (x e : ℕ) → T (S e) → Joined g S x (g.second e) → Joined g S x (g.first e)

-- the ends of a link are joined by the links of S
abbrev pub Spans : Graph → (ℕ → Bool) → ℕ → Type 0
Spans g S e = Joined g S (g.first e) (g.second e)

-- no link of S is spanned by the others: S has no ring
abbrev pub NoRing : Graph → (ℕ → Bool) → Type 0
NoRing g S = (e : ℕ) → T (S e) → Spans g (without_link S e) e → ⊥
