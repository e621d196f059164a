-- Contraction: the kept links are taken for granted, and only the free links between different parts of them are left.
use Rattle.std.specs.Prelude.{ℕ, Bool, false, not, ◌&&◌, ◌||◌}

module _ (in_span : (ℕ → Bool) → ℕ → Bool) (kept free : ℕ → Bool) where
  -- what S spans together with the kept links
  abbrev pub contracted : (ℕ → Bool) → ℕ → Bool
  contracted S e = in_span (λ k. kept k || S k) e

  -- the free links that the kept ones do not span
  abbrev pub between : ℕ → Bool
  between k = free k && not (in_span kept k)

-- no link
abbrev pub nothing_kept : ℕ → Bool
nothing_kept k = false

-- a set with the kept links, and without them
abbrev pub and_kept : (ℕ → Bool) → (ℕ → Bool) → ℕ → Bool
and_kept kept X k = kept k || X k

abbrev pub less_kept : (ℕ → Bool) → (ℕ → Bool) → ℕ → Bool
less_kept kept X k = X k && not (kept k)
