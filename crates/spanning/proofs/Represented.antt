-- The roots of a union-find tell which points are joined.
use Rattle.std.proofs.Common.{◌≡◌, ℕ, ◌<◌, min, max, Bool, false, List, length, sym, refl, ap, ◌∙◌, subst, arith}
use Rattle.spanning.specs.Joined.{Graph, Joined}
use Rattle.spanning.specs.Joined.Joined.{same, forth, back}
use Rattle.spanning.specs.Roots.{root_of, under, Represents}
use Rattle.spanning.specs.Sets.{with_link}
use Rattle.spanning.proofs.Labels.{tells_more}

-- with no links each point is joined to itself alone
none_joined : (g : Graph) (x y : ℕ) → Joined g (λ _. false) x y → x ≡ y
none_joined g x y (same w) = refl
none_joined g x y (forth w e t d) = absurd t
none_joined g x y (back w e t d) = absurd t

pub represents_none : (ps : List ℕ) (g : Graph) → ((z : ℕ) → z < length ps → root_of ps z ≡ z) → Represents ps g (λ _. false)
represents_none ps g own x y lx ly = (
  (λ e. subst (λ z. Joined g (λ _. false) x z) (sym (own x lx) ∙ e ∙ own y ly) (same x)),
  (λ d. ap (root_of ps) (none_joined g x y d)),
)

module _ (ps : List ℕ) (g : Graph) (S : ℕ → Bool) (e : ℕ) (la : g.first e < length ps) (lb : g.second e < length ps) (rep : Represents ps g S) where
  abbrev R : ℕ → ℕ
  R = root_of ps

  pub represents_more : (ps' : List ℕ) → length ps' ≡ length ps → ((z : ℕ) → root_of ps' z ≡ under ps (min (R (g.first e)) (R (g.second e))) (max (R (g.first e)) (R (g.second e))) z) → Represents ps' g (with_link S e)
  represents_more ps' long roots x y lx ly =
      let kx : x < length ps = omega arith in
      let ky : y < length ps = omega arith in
      let both = tells_more (λ z. z < length ps) R g S e la lb rep x y kx ky in (
        (λ q. both.0 (sym (roots x) ∙ q ∙ roots y)),
        (λ d. roots x ∙ both.1 d ∙ sym (roots y)),
      )

-- the same where the ends are those of a link
pub represents_joined : (ps ps' : List ℕ) → length ps ≡ 1024 → length ps' ≡ 1024 → (a b : ℕ) → ((z : ℕ) → root_of ps' z ≡ under ps (min (root_of ps a) (root_of ps b)) (max (root_of ps a) (root_of ps b)) z) → (g : Graph) (S : ℕ → Bool) (e : ℕ) → g.first e ≡ a → g.second e ≡ b → a < 1024 → b < 1024 → Represents ps g S → Represents ps' g (with_link S e)
represents_joined ps ps' long long' a b after g S e p q la lb rep =
    represents_more ps g S e (omega arith) (omega arith) rep ps' (long' ∙ sym long)
    (λ z. after z ∙ ap (λ x. under ps (min (root_of ps x) (root_of ps b)) (max (root_of ps x) (root_of ps b)) z) (sym p) ∙ ap (λ x. under ps (min (root_of ps (g.first e)) (root_of ps x)) (max (root_of ps (g.first e)) (root_of ps x)) z) (sym q))
