-- Different numbers below a bound that leave one out are fewer than the bound.
use Rattle.std.proofs.Common.{◌≡◌, ℕ, zero, suc, ◌<◌, true, false, cond, eqb, sym, ap, ◌∙◌, subst, inl, inr, arith}
use Rattle.spanning.proofs.Subsets.{same_or}

-- the number left out stands in for m
abbrev instead : ℕ → ℕ → ℕ → ℕ
instead m b v = cond (eqb v m) b v

instead_at : (m b v : ℕ) → v ≡ m → instead m b v ≡ b
instead_at m b v q = let t : eqb v m ≡ true = grind arith in ap (λ t. cond t b v) t

instead_other : (m b v : ℕ) → (v ≡ m → ⊥) → instead m b v ≡ v
instead_other m b v apart = let t : eqb v m ≡ false = grind arith in ap (λ t. cond t b v) t

instead_below : (m b v : ℕ) → b < suc m → v < suc m → (v ≡ b → ⊥) → instead m b v < m
instead_below m b v lb lv apart = elim (same_or v m) [
  | inl q ↦ subst (λ w. w < m) (sym (instead_at m b v q)) (omega arith)
  | inr other ↦ subst (λ w. w < m) (sym (instead_other m b v other)) (omega arith)
]

instead_same : (m b v w : ℕ) → (v ≡ b → ⊥) → (w ≡ b → ⊥) → instead m b v ≡ instead m b w → v ≡ w
instead_same m b v w nv nw e = elim (same_or v m) [
  | inl qv ↦ elim (same_or w m) [
    | inl qw ↦ qv ∙ sym qw
    | inr ow ↦ absurd (nw (sym (instead_other m b w ow) ∙ sym e ∙ instead_at m b v qv))
  ]
  | inr ov ↦ elim (same_or w m) [
    | inl qw ↦ absurd (nv (sym (instead_other m b v ov) ∙ e ∙ instead_at m b w qw))
    | inr ow ↦ sym (instead_other m b v ov) ∙ e ∙ instead_other m b w ow
  ]
]

pub one_left : (m n : ℕ) (f : ℕ → ℕ) (b : ℕ) → ((p : ℕ) → p < n → f p < m) → ((p q : ℕ) → p < n → q < n → f p ≡ f q → p ≡ q) → b < m → ((p : ℕ) → p < n → f p ≡ b → ⊥) → n < m
one_left zero n f b below apart lb out = absurd (omega arith)
one_left (suc m) zero f b below apart lb out = omega arith
one_left (suc m) (suc n) f b below apart lb out =
    let h = one_left m n (λ p. instead m b (f p)) (instead m b (f n))
    (λ p l. instead_below m b (f p) lb (below p (omega arith)) (out p (omega arith)))
    (λ p q l k e. apart p q (omega arith) (omega arith) (instead_same m b (f p) (f q) (out p (omega arith)) (out q (omega arith)) e))
    (instead_below m b (f n) lb (below n (omega arith)) (out n (omega arith)))
    (λ p l e. let s = apart p n (omega arith) (omega arith) (instead_same m b (f p) (f n) (out p (omega arith)) (out n (omega arith)) e) in omega arith)
    in omega arith
