-- Chains of links: they can be turned round, put together, and split at a link.
use Rattle.std.proofs.Common.{◌≡◌, ℕ, Bool, T, ◌⊎◌, sym, subst, inl, inr}
use Rattle.spanning.specs.Joined.{Graph, Joined, Spans}
use Rattle.spanning.specs.Joined.Joined.{same, forth, back}
use Rattle.spanning.specs.Sets.{with_link}
use Rattle.spanning.proofs.Subsets.{with_old, with_new, with_cases, Within}

module _ (g : Graph) where
  pub join : (S : ℕ → Bool) (x y z : ℕ) → Joined g S x y → Joined g S y z → Joined g S x z
  join S x y z c (same w) = c
  join S x y z c (forth w e t d) = forth x e t (join S x y (g.first e) c d)
  join S x y z c (back w e t d) = back x e t (join S x y (g.second e) c d)

  pub turn : (S : ℕ → Bool) (x y : ℕ) → Joined g S x y → Joined g S y x
  turn S x y (same w) = same w
  turn S x y (forth w e t d) = join S (g.second e) (g.first e) x (back (g.second e) e t (same (g.second e))) (turn S x (g.first e) d)
  turn S x y (back w e t d) = join S (g.first e) (g.second e) x (forth (g.first e) e t (same (g.first e))) (turn S x (g.second e) d)

  pub spans_own : (S : ℕ → Bool) (e : ℕ) → T (S e) → Spans g S e
  spans_own S e t = forth (g.first e) e t (same (g.first e))

  pub grown : (S R : ℕ → Bool) → ((e : ℕ) → T (S e) → Spans g R e) → (x y : ℕ) → Joined g S x y → Joined g R x y
  grown S R h x y (same w) = same w
  grown S R h x y (forth w e t d) = join R x (g.first e) (g.second e) (grown S R h x (g.first e) d) (h e t)
  grown S R h x y (back w e t d) = join R x (g.second e) (g.first e) (grown S R h x (g.second e) d) (turn R (g.first e) (g.second e) (h e t))

  pub wider : (S R : ℕ → Bool) → Within S R → (x y : ℕ) → Joined g S x y → Joined g R x y
  wider S R h = grown S R (λ e t. spans_own R e (h e t))

  -- without e, or once along e, one way or the other
  pub data Split (S : ℕ → Bool) (e x y : ℕ) : Type 0 where
    around : Joined g S x y → Split S e x y
    across : Joined g S x (g.first e) → Joined g S (g.second e) y → Split S e x y
    against : Joined g S x (g.second e) → Joined g S (g.first e) y → Split S e x y

  split_forth : (S : ℕ → Bool) (e x d : ℕ) → T (S d) ⊎ (d ≡ e) → Split S e x (g.first d) → Split S e x (g.second d)
  split_forth S e x d (inl t) (around c) = around (forth x d t c)
  split_forth S e x d (inl t) (across b c) = across b (forth (g.second e) d t c)
  split_forth S e x d (inl t) (against b c) = against b (forth (g.first e) d t c)
  split_forth S e x d (inr q) (around c) =
      across (subst (λ j. Joined g S x (g.first j)) q c) (subst (λ j. Joined g S (g.second j) (g.second d)) q (same (g.second d)))
  split_forth S e x d (inr q) (across b c) = across b (subst (λ j. Joined g S (g.second j) (g.second d)) q (same (g.second d)))
  split_forth S e x d (inr q) (against b c) = around (subst (λ j. Joined g S x (g.second j)) (sym q) b)

  split_back : (S : ℕ → Bool) (e x d : ℕ) → T (S d) ⊎ (d ≡ e) → Split S e x (g.second d) → Split S e x (g.first d)
  split_back S e x d (inl t) (around c) = around (back x d t c)
  split_back S e x d (inl t) (across b c) = across b (back (g.second e) d t c)
  split_back S e x d (inl t) (against b c) = against b (back (g.first e) d t c)
  split_back S e x d (inr q) (around c) =
      against (subst (λ j. Joined g S x (g.second j)) q c) (subst (λ j. Joined g S (g.first j) (g.first d)) q (same (g.first d)))
  split_back S e x d (inr q) (across b c) = around (subst (λ j. Joined g S x (g.first j)) (sym q) b)
  split_back S e x d (inr q) (against b c) = against b (subst (λ j. Joined g S (g.first j) (g.first d)) q (same (g.first d)))

  pub split : (S : ℕ → Bool) (e x y : ℕ) → Joined g (with_link S e) x y → Split S e x y
  split S e x y (same w) = around (same w)
  split S e x y (forth w d t c) = split_forth S e x d (with_cases S e d t) (split S e x (g.first d) c)
  split S e x y (back w d t c) = split_back S e x d (with_cases S e d t) (split S e x (g.second d) c)

  exchange_by : (S : ℕ → Bool) (e f : ℕ) → Split S e (g.first f) (g.second f) → Spans g S f ⊎ Spans g (with_link S f) e
  exchange_by S e f (around c) = inl c
  exchange_by S e f (across b c) =
      let R = with_link S f in
      let wide = wider S R (with_old S f) in
      let before = wide (g.first e) (g.first f) (turn S (g.first f) (g.first e) b) in
      let after = wide (g.second f) (g.second e) (turn S (g.second e) (g.second f) c) in
      inr (join R (g.first e) (g.second f) (g.second e) (forth (g.first e) f (with_new S f) before) after)
  exchange_by S e f (against b c) =
      let R = with_link S f in
      let wide = wider S R (with_old S f) in
      inr (join R (g.first e) (g.first f) (g.second e) (back (g.first e) f (with_new S f) (wide (g.first e) (g.second f) c)) (wide (g.first f) (g.second e) b))

  -- if S with e spans f, then S does, or S with f spans e
  pub exchanged : (S : ℕ → Bool) (e f : ℕ) → Spans g (with_link S e) f → Spans g S f ⊎ Spans g (with_link S f) e
  exchanged S e f c = exchange_by S e f (split S e (g.first f) (g.second f) c)
