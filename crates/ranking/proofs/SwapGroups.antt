-- Links in groups, by the link that their swap takes out, and the answers of one group.
use Rattle.std.proofs.Common.{◌≡◌, ℕ, zero, suc, ◌+◌, ◌<◌, ◌≤◌, Bool, false, T, eqb, List, [], ◌∷◌, ◌++◌, length, get_or, set, Contains, Some, None, Option, sym, refl, ◌∙◌, subst, inl, inr, arith, eqb→eq}
use native.Mathlib.Decide.{ℕ_discrete, dec_lt}
use lib.Dec.{eqb_refl}
use Rattle.std.proofs.lemmas.List.{get_or-set_same, get_or-set_other, get_or_past}
use Rattle.std.proofs.lemmas.List.Elements.{Contains-append_left, Contains-append_right, Contains-append_cases}
use Rattle.groups.specs.Groups.{Grouping, put_under, GroupedTo}
use Rattle.groups.proofs.Putting.{grouped_past, grouped_put}
use Rattle.ranking.specs.declared.totals.Swap.{Swap}
use Rattle.ranking.specs.Totals.{swap_of, takes, goes}

-- what a swap takes out
module _ (swaps : List (Option Swap)) where
  pub goes_own : (e : ℕ) (s : Swap) → swap_of swaps e ≡ Some s → T (goes swaps s.gone e)
  goes_own e s q = subst (λ w. T (takes (λ k. eqb k s.gone) w)) (sym q) (eqb_refl s.gone)

  pub goes_is : (l e : ℕ) (s : Swap) → swap_of swaps e ≡ Some s → T (goes swaps l e) → s.gone ≡ l
  goes_is l e s q t = eqb→eq s.gone l (subst (λ w. T (takes (λ k. eqb k l) w)) q t)

  pub goes_none : (l e : ℕ) → swap_of swaps e ≡ None → T (goes swaps l e) → ⊥
  goes_none l e q t = subst (λ w. T (takes (λ k. eqb k l) w)) q t

  pub goes_below : length swaps ≡ 2048 → (l e : ℕ) → T (goes swaps l e) → e < 2048
  goes_below long l e t = elim (dec_lt e 2048) [
    | yes below ↦ below
    | no past ↦ absurd (goes_none l e (get_or_past swaps e None (at_least e (length swaps) long past)) t)
  ] where
    at_least : (e n : ℕ) → n ≡ 2048 → (e < 2048 → ⊥) → n ≤ e
    at_least e n q past = omega arith

  -- the next link, with a swap or without one
  pub next_grouped : (n : ℕ) (s : Swap) (g : Grouping) → n < 2048 → swap_of swaps n ≡ Some s → GroupedTo 2048 (goes swaps) n g → GroupedTo 2048 (goes swaps) (n + 1) (put_under 2048 2048 g s.gone n)
  next_grouped n s g inside q = grouped_put 2048 2048 (goes swaps) n g s.gone inside (goes_own n s q) (λ l t. sym (goes_is l n s q t))

  pub next_alone : (n : ℕ) (g : Grouping) → swap_of swaps n ≡ None → GroupedTo 2048 (goes swaps) n g → GroupedTo 2048 (goes swaps) (n + 1) g
  next_alone n g q = grouped_past 2048 2048 (goes swaps) n g (λ l near t. goes_none l n q t)

-- one more answer beside those of the links of a list
module _ (swaps : List (Option Swap)) (answer : Option Swap → Bool) (old : List Bool) (done : List ℕ) (fits : List Bool) (n : ℕ) (inside : n < length fits) (b : Bool) where
  pub answered_next : ((e : ℕ) → Contains done e → get_or fits e false ≡ answer (swap_of swaps e)) → b ≡ answer (swap_of swaps n) → (e : ℕ) → Contains (done ++ n ∷ []) e → get_or (set fits n b) e false ≡ answer (swap_of swaps e)
  answered_next answered is e c = elim (ℕ_discrete e n) [
    | yes q ↦ subst (λ j. get_or (set fits n b) j false ≡ answer (swap_of swaps j)) (sym q) (get_or-set_same fits n b false inside ∙ is)
    | no apart ↦ get_or-set_other fits n e b false apart ∙ elim (Contains-append_cases done (n ∷ []) e c) [
      | inl before ↦ answered e before
      | inr last ↦ absurd (apart (sole n e last))
    ]
  ] where
    sole : (n k : ℕ) → Contains (n ∷ []) k → k ≡ n
    sole n k c = at c.0 c.1 c.2 where
      at : (i : ℕ) → i < 1 → get_or (n ∷ []) i k ≡ k → k ≡ n
      at zero l e = sym e
      at (suc i) l e = absurd (omega arith)

  pub others_next : ((e : ℕ) → (Contains done e → ⊥) → get_or fits e false ≡ get_or old e false) → (e : ℕ) → (Contains (done ++ n ∷ []) e → ⊥) → get_or (set fits n b) e false ≡ get_or old e false
  others_next others e out = get_or-set_other fits n e b false (λ q. out (Contains-append_right done (n ∷ []) e (subst (λ j. Contains (n ∷ []) j) (sym q) (0, omega arith, refl)))) ∙ others e (λ c. out (Contains-append_left done (n ∷ []) e c))
