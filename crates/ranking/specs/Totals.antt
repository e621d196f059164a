-- Totals of sets of links by a kind's own addition, and swaps of one link for another.
use Rattle.std.specs.Prelude.{◌≡◌, ℕ, zero, suc, Bool, false, cond, not, ◌&&◌, T, List, Some, None, Option, nat_eq, nat_le, nat_lt, slice_index_or}
use Rattle.price.specs.Kind.{Operations}
use Rattle.spanning.specs.Joined.{NoRing}
use Rattle.spanning.specs.Sets.{with_link, without_link}
use Rattle.table.specs.Ranks.{ends, link_count, usable, price_of}
use Rattle.table.specs.Table.{Table, Lawful}
use Rattle.table.specs.Trees.{cost_of}
use Rattle.ranking.specs.declared.totals.Swap.{Swap}

-- an amount with the prices of the links of X below n added in the order of their numbers, by the kind's own addition
abbrev pub added_cost : {K : Type 0} → Operations K → K → (ℕ → K) → ℕ → (ℕ → Bool) → K
added_cost o amount price zero X = amount
added_cost o amount price (suc n) X = cond (X n) (o.added (added_cost o amount price n X) (price n)) (added_cost o amount price n X)

-- the carried total with the prices of the links of X so added
abbrev pub added_cost_of : {K : Type 0} → Operations K → Table K → (ℕ → Bool) → K
added_cost_of o t X = added_cost o t.carried (price_of o t) (link_count t) X

-- the links of X from one number on, and of these the ones below another
abbrev pub from : ℕ → (ℕ → Bool) → ℕ → Bool
from low X k = nat_le low k && X k

abbrev pub between : ℕ → ℕ → (ℕ → Bool) → ℕ → Bool
between low high X k = from low X k && nat_lt k high

-- the swap of each link, and none past the last
abbrev pub swap_of : List (Option Swap) → ℕ → Option Swap
swap_of swaps e = slice_index_or swaps e None

-- whether the link that goes is in a set
abbrev pub takes : (ℕ → Bool) → Option Swap → Bool
takes S None = false
takes S (Some s) = S s.gone

-- whether the total of the links that stay and of the one that comes is not above the budget
abbrev pub fits_in : {K : Type 0} → Operations K → Table K → K → K → Option Swap → Bool
fits_in o t stays budget None = false
fits_in o t stays budget (Some s) = o.not_above (o.added stays (price_of o t s.come)) budget

-- whether the swap of e takes a link out
abbrev pub goes : List (Option Swap) → ℕ → ℕ → Bool
goes swaps l e = takes (λ k. nat_eq k l) (swap_of swaps e)

-- the links of X but for those between two numbers
abbrev pub beyond : ℕ → ℕ → (ℕ → Bool) → ℕ → Bool
beyond low high X k = X k && not (between low high X k)

-- The answers of the links whose swap takes out a link of X between two numbers. If X is of usable links of a lawful table and has no
-- ring, and what stays outside of the numbers is the cost of the rest of X, each is by the cost of X without the link that goes.
abbrev pub RangeAnswered : {K : Type 0} → Operations K → Table K → (ℕ → Bool) → List (Option Swap) → ℕ → ℕ → K → K → List Bool → Type 0
RangeAnswered o t X swaps low high outside budget fits =
    Lawful o t → ((k : ℕ) → T (X k) → T (usable t k)) → NoRing (ends t) X → outside ≡ cost_of o t (beyond low high X) →
    (l e : ℕ) → T (between low high X l) → T (goes swaps l e) → slice_index_or fits e false ≡ fits_in o t (cost_of o t (without_link X l)) budget (swap_of swaps e)

-- The answers of all links, if X is of usable links of a lawful table and has no ring: where a swap takes out a link of X, and a usable
-- link comes that X then lacks, whether the cost of X with the one for the other is not above the budget.
abbrev pub SwapsAnswered : {K : Type 0} → Operations K → Table K → (ℕ → Bool) → List (Option Swap) → K → List Bool → Type 0
SwapsAnswered o t X swaps budget fits =
    Lawful o t → ((k : ℕ) → T (X k) → T (usable t k)) → NoRing (ends t) X →
    (e : ℕ) (s : Swap) → swap_of swaps e ≡ Some s → T (X s.gone) → T (usable t s.come) → (T (without_link X s.gone s.come) → ⊥) →
    slice_index_or fits e false ≡ o.not_above (cost_of o t (with_link (without_link X s.gone) s.come)) budget
