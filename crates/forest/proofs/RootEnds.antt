-- The ends of links, and tests of bits.
use Rattle.std.proofs.Common.{◌≡◌, ℕ, ◌<◌, Bool, true, false, T, List, length, sym, refl, ap, ◌∙◌, subst, inl, inr, arith}
use native.Mathlib.Decide.{dec_lt}
use Rattle.std.proofs.lemmas.List.{get_or_past}
use Rattle.spanning.specs.Joined.{Graph}
use Rattle.forest.specs.declared.networks.Network.{Network}
use Rattle.forest.specs.Readings.{links_of}
use Rattle.spanning.specs.Sets.{held}
use Rattle.forest.specs.LinkEnds.{end_of, other}
use Rattle.forest.specs.declared.rooted.links_by_end.ends.End.{End}
use Rattle.forest.specs.declared.rooted.links_by_end.ends.End.TheVariants.{First, Second}
use Rattle.forest.specs.Rooted.{Between}

pub end_below : (n : Network) (end : End) (e : ℕ) → end_of (links_of n) end e < n.points
end_below n First e = n.first_below e
end_below n Second e = n.second_below e

pub end_within : (n : Network) (end : End) (e : ℕ) → end_of (links_of n) end e < 1024
end_within n end e = let l = end_below n end e in omega (arith, n.few)

pub bit_taken : (X : ℕ → Bool) (k j : ℕ) → k ≡ j → X k ≡ true → T (X j)
bit_taken X k j e t = subst (λ b. T b) (sym t ∙ ap X e) tt

pub bit_left : (X : ℕ → Bool) (k j : ℕ) → k ≡ j → X k ≡ false → T (X j) → ⊥
bit_left X k j e f t = subst (λ b. T b) (ap X (sym e) ∙ f) t

-- a link is between its ends, either way round
pub ends_between : (g : Graph) (end : End) (e : ℕ) → Between g e (end_of g (other end) e) (end_of g end e)
ends_between g First e = inr (refl, refl)
ends_between g Second e = inl (refl, refl)

-- bits past the end are not set
pub held_within : (bits : List Bool) (n e : ℕ) → length bits ≡ n → T (held bits e) → e < n
held_within bits n e long t = elim (dec_lt e n) [
  | yes l ↦ l
  | no past ↦ absurd (subst (λ b. T b) (get_or_past bits e false (omega arith)) t)
]
