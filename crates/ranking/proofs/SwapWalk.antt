-- Halving the numbers: what stays outside of each half, and what each half answers.
use Rattle.std.proofs.Common.{◌≡◌, ℕ, zero, suc, ◌+◌, ◌-◌, ◌/◌, ◌<◌, ◌≤◌, min, Bool, false, not, ◌||◌, T, eqb, List, length, get_or, replicate, Some, None, Option, sym, refl, ap, ◌∙◌, subst, inl, inr, arith, eqb→eq}
use native.Mathlib.Decide.{dec_lt}
use Rattle.price.specs.Kind.{Operations, Laws}
use Rattle.spanning.specs.Joined.{NoRing}
use Rattle.spanning.specs.Sets.{with_link, without_link}
use Rattle.spanning.proofs.Subsets.{or_left, or_right, or_cases, and_both, and_left, and_right, not_from, not_to, true_or, without_old, without_apart, Within}
use Rattle.table.specs.Ranks.{ends, link_count, usable, price_of}
use Rattle.table.specs.Table.{Table, Lawful}
use Rattle.table.specs.Trees.{cost_of}
use Rattle.ranking.specs.declared.totals.Swap.{Swap}
use Rattle.spanning.specs.Sets.{held}
use Rattle.ranking.specs.Totals.{added_cost, from, between, beyond, takes, swap_of, goes, fits_in, RangeAnswered, SwapsAnswered}
use Rattle.ranking.proofs.TotalSums.{between_in, between_low, between_high, between_old, held_below, grown, cost_same_sets, cost_nothing, usable_below, cost_with, count_part}
use Rattle.ranking.proofs.SwapGroups.{goes_own}

-- the links of X but for those between two numbers
pub beyond_in : (low high : ℕ) (X : ℕ → Bool) (k : ℕ) → T (X k) → (low ≤ k → k < high → ⊥) → T (beyond low high X k)
beyond_in low high X k t out = and_both (X k) (not (between low high X k)) t (not_from (between low high X k) (λ b. out (between_low low high X k b) (between_high low high X k b)))

pub beyond_old : (low high : ℕ) (X : ℕ → Bool) (k : ℕ) → T (beyond low high X k) → T (X k)
beyond_old low high X k t = and_left (X k) (not (between low high X k)) t

pub beyond_out : (low high : ℕ) (X : ℕ → Bool) (k : ℕ) → T (beyond low high X k) → low ≤ k → k < high → ⊥
beyond_out low high X k t l h = not_to (between low high X k) (and_right (X k) (not (between low high X k)) t) (between_in low high X k l h (beyond_old low high X k t))

-- what a swap takes out
pub takes_more : (S R : ℕ → Bool) (w : Option Swap) → Within S R → T (takes S w) → T (takes R w)
takes_more S R None h t = t
takes_more S R (Some s) h t = h s.gone t

module _ (swaps : List (Option Swap)) where
  by_goes : (P : ℕ → Type 0) (w : Option Swap) (l : ℕ) → T (takes (λ k. eqb k l) w) → ((s : Swap) → w ≡ Some s → s.gone ≡ l → P l) → P l
  by_goes P None l t f = absurd t
  by_goes P (Some s) l t f = f s refl (eqb→eq s.gone l t)

  pub takes_only : (S : ℕ → Bool) (l e : ℕ) → T (goes swaps l e) → T (takes S (swap_of swaps e)) → T (S l)
  takes_only S l e t u = by_goes (λ j. T (S j)) (swap_of swaps e) l t (λ s q r. subst (λ j. T (S j)) r (subst (λ w. T (takes S w)) q u))

-- the numbers from low to high in two ranges, from a to b and from p to q
pub record Split (low high a b p q : ℕ) : Type 0 where
  pub in_a : (k : ℕ) → a ≤ k → k < b → (low ≤ k) × (k < high)
  pub in_p : (k : ℕ) → p ≤ k → k < q → (low ≤ k) × (k < high)
  pub apart : (k : ℕ) → a ≤ k → k < b → p ≤ k → k < q → ⊥
  pub cover : (k : ℕ) → low ≤ k → k < high → (a ≤ k → k < b → ⊥) → (p ≤ k) × (k < q)

pub upper : (low middle high : ℕ) → low ≤ middle → middle ≤ high → Split low high middle high low middle
upper low middle high l h = record {
  in_a = λ k x y. (omega arith, omega arith);
  in_p = λ k x y. (omega arith, omega arith);
  apart = λ k x y z w. omega arith;
  cover = λ k x y out. (omega arith, below k (λ z. out z y));
} where
  below : (k : ℕ) → (middle ≤ k → ⊥) → k < middle
  below k n = omega arith

pub lower : (low middle high : ℕ) → low ≤ middle → middle ≤ high → Split low high low middle middle high
lower low middle high l h = record {
  in_a = λ k x y. (omega arith, omega arith);
  in_p = λ k x y. (omega arith, omega arith);
  apart = λ k x y z w. omega arith;
  cover = λ k x y out. (above k (λ z. out x z), omega arith);
} where
  above : (k : ℕ) → (k < middle → ⊥) → middle ≤ k
  above k n = omega arith

module _ {K : Type 0} (o : Operations K) (laws : Laws o) (t : Table K) (lawful : Lawful o t) (X : ℕ → Bool) (within : Within X (usable t)) (ring : NoRing (ends t) X) where
  abbrev C : (ℕ → Bool) → K
  C = cost_of o t

  -- the other range added to what stays outside of both
  pub outside_half : (low high a b p q : ℕ) → Split low high a b p q → (x : K) → x ≡ C (beyond low high X) → added_cost o x (price_of o t) b (from a X) ≡ C (beyond p q X)
  outside_half low high a b p q split x is =
      ap (λ v. added_cost o v (price_of o t) b (from a X)) is
      ∙ grown o laws t lawful X within ring (beyond low high X) a b (beyond_old low high X) (λ k l h s. let i = split.in_a k l h in beyond_out low high X k s i.0 i.1)
      ∙ cost_same_sets o laws t lawful (λ k. beyond low high X k || between a b X k) (beyond p q X)
      (λ k s. elim (or_cases (beyond low high X k) (between a b X k) s) [
        | inl old ↦ beyond_in p q X k (beyond_old low high X k old) (λ l h. let i = split.in_p k l h in beyond_out low high X k old i.0 i.1)
        | inr new ↦ beyond_in p q X k (between_old a b X k new) (λ l h. split.apart k (between_low a b X k new) (between_high a b X k new) l h)
      ])
      (λ k s. elim (true_or (between a b X k)) [
        | inl new ↦ or_right (beyond low high X k) (between a b X k) new
        | inr out ↦ or_left (beyond low high X k) (between a b X k) (beyond_in low high X k (beyond_old p q X k s) (λ l h.
            let r = split.cover k l h (λ x y. out (between_in a b X k x y (beyond_old p q X k s))) in
            beyond_out p q X k s r.0 r.1))
      ])

  -- all links outside of all numbers: none
  pub outside_none : (high : ℕ) → ((k : ℕ) → T (X k) → k < high) → C (λ _. false) ≡ C (beyond 0 high X)
  outside_none high all = cost_same_sets o laws t lawful (λ _. false) (beyond 0 high X) (λ k s. absurd s) (λ k s. beyond_out 0 high X k s (omega arith) (all k (beyond_old 0 high X k s)))

  -- one link goes and another comes
  pub cost_swapped : (l c : ℕ) → T (X l) → T (usable t c) → (T (without_link X l c) → ⊥) → o.added (C (without_link X l)) (price_of o t c) ≡ C (with_link (without_link X l) c)
  cost_swapped l c x u new =
      cost_with o laws t lawful (without_link X l) c (λ k s. within k (without_old X l k s)) u new
      (count_part o laws t lawful X within ring (without_link X l) l (without_old X l) x (λ s. without_apart X l l s refl))

-- what the two halves answer
module _ (swaps : List (Option Swap)) (X : ℕ → Bool) (low middle high : ℕ) (lm : low < middle) (mh : middle < high) (start first last : List Bool) where
  abbrev Same : (ℕ → Bool) → List Bool → List Bool → Type 0
  Same S old new = (e : ℕ) → (T (takes S (swap_of swaps e)) → ⊥) → get_or new e false ≡ get_or old e false

  pub halves_range : (answer : ℕ → Option Swap → Bool)
      → ((l e : ℕ) → T (between low middle X l) → T (goes swaps l e) → get_or first e false ≡ answer l (swap_of swaps e))
      → ((l e : ℕ) → T (between middle high X l) → T (goes swaps l e) → get_or last e false ≡ answer l (swap_of swaps e))
      → Same (between middle high X) first last
      → (l e : ℕ) → T (between low high X l) → T (goes swaps l e) → get_or last e false ≡ answer l (swap_of swaps e)
  halves_range answer f s same l e b t = elim (dec_lt l middle) [
    | yes below ↦
        same e (λ u. let m = between_low middle high X l (takes_only swaps (between middle high X) l e t u) in omega arith)
        ∙ f l e (between_in low middle X l (between_low low high X l b) below (between_old low high X l b)) t
    | no above ↦ s l e (between_in middle high X l (omega arith) (between_high low high X l b) (between_old low high X l b)) t
  ]

-- two halves of more than one number
module _ {K : Type 0} (o : Operations K) (laws : Laws o) (t : Table K) (X : ℕ → Bool) (swaps : List (Option Swap)) (low high : ℕ) (outside budget : K) where
  pub halves_answered : (middle : ℕ) → low < middle → middle < high → (left right : K) (start first last : List Bool)
      → left ≡ added_cost o outside (price_of o t) high (from middle X)
      → right ≡ added_cost o outside (price_of o t) middle (from low X)
      → RangeAnswered o t X swaps low middle left budget first
      → RangeAnswered o t X swaps middle high right budget last
      → ((e : ℕ) → (T (takes (between middle high X) (swap_of swaps e)) → ⊥) → get_or last e false ≡ get_or first e false)
      → RangeAnswered o t X swaps low high outside budget last
  halves_answered middle lm mh left right start first last lefts rights f s rest lawful within ring is =
      halves_range swaps X low middle high lm mh start first last (λ l. fits_in o t (cost_of o t (without_link X l)) budget)
      (f lawful within ring (lefts ∙ outside_half o laws t lawful X within ring low high middle high low middle (upper low middle high (less low middle lm) (less middle high mh)) outside is))
      (s lawful within ring (rights ∙ outside_half o laws t lawful X within ring low high low middle middle high (lower low middle high (less low middle lm) (less middle high mh)) outside is))
      rest where
        less : (m n : ℕ) → m < n → m ≤ n
        less m n l = omega arith

pub middle_in : (low high : ℕ) → low < high → (high - low ≡ 1 → ⊥) → (low < low + (high - low) / 2) × (low + (high - low) / 2 < high)
middle_in low high l apart = (omega arith, omega arith)

-- all numbers
pub falses : (n k : ℕ) → get_or (replicate n false) k false ≡ false
falses zero k = refl
falses (suc n) zero = refl
falses (suc n) (suc k) = falses n k

module _ {K : Type 0} (o : Operations K) (laws : Laws o) (t : Table K) (bits : List Bool) (long : length bits ≡ 2048) (swaps : List (Option Swap)) (n : ℕ) (end : n ≡ min (link_count t) 2048) where
  all_below : Lawful o t → ((k : ℕ) → T (held bits k) → T (usable t k)) → (k : ℕ) → T (held bits k) → k < n
  all_below lawful within k s = least k n (link_count t) (length bits) end long (usable_below o laws t lawful k (within k s)) (held_below bits k s) where
    least : (k n m l : ℕ) → n ≡ min m 2048 → l ≡ 2048 → k < m → k < l → k < n
    least k n m l e q a b = omega arith

  pub all_answered : (budget x : K) (fits : List Bool) → x ≡ t.carried → RangeAnswered o t (held bits) swaps 0 n x budget fits → SwapsAnswered o t (held bits) swaps budget fits
  all_answered budget x fits is answered lawful within ring e s q gone come new =
      let below = all_below lawful within in
      let start = is ∙ sym (cost_nothing o t (link_count t)) ∙ outside_none o laws t lawful (held bits) within ring n below in
      answered lawful within ring start s.gone e (between_in 0 n (held bits) s.gone (omega arith) (below s.gone gone) gone) (goes_own swaps e s q)
      ∙ ap (fits_in o t (cost_of o t (without_link (held bits) s.gone)) budget) q
      ∙ ap (λ v. o.not_above v budget) (cost_swapped o laws t lawful (held bits) within ring s.gone s.come gone come new)

  pub others_false : (fits : List Bool) → ((e : ℕ) → (T (takes (between 0 n (held bits)) (swap_of swaps e)) → ⊥) → get_or fits e false ≡ get_or (replicate 2048 false) e false) → (e : ℕ) → (T (takes (held bits) (swap_of swaps e)) → ⊥) → get_or fits e false ≡ false
  others_false fits rest e out = rest e (λ u. out (takes_more (between 0 n (held bits)) (held bits) (swap_of swaps e) (between_old 0 n (held bits)) u)) ∙ falses 2048 e
