-- The last join that two points needed is the last link on the path between them.
use Rattle.std.proofs.Common.{◌≡◌, ℕ, zero, suc, ◌<◌, ◌≤◌, Bool, T, eqb, List, [], ◌∷◌, length, get_or, take, sym, refl, ap, ◌∙◌, subst, inl, inr, arith, eqb→eq, take-suc}
use native.Mathlib.Decide.{dec_lt}
use lib.Dec.{eqb_refl}
use Rattle.std.proofs.lemmas.List.{length-take, get_or-take}
use Rattle.forest.specs.Merges.{among, Sole}
use Rattle.forest.proofs.MergeJoins.{among_push}
use Rattle.spanning.specs.Closure.{Closure}
use Rattle.spanning.specs.Sets.{with_link, without_link}
use Rattle.spanning.specs.Trees.{Independent, OnPath}
use Rattle.spanning.proofs.Greedy.{more}
use Rattle.spanning.proofs.Subsets.{or_left, or_right, or_cases, with_cases, without_in, Within}

-- a link of a list has a place in it
pub record Place (js : List ℕ) (n k : ℕ) : Type 0 where
  pub at : ℕ
  pub early : at < n
  pub within : at < length js
  pub is : get_or js at 0 ≡ k

pub among_at : (js : List ℕ) (i : ℕ) → i < length js → T (among js (get_or js i 0))
among_at [] i l = absurd (omega arith)
among_at (j ∷ js) zero l = or_left (eqb j j) (among js j) (eqb_refl j)
among_at (j ∷ js) (suc i) l = or_right (eqb (get_or js i 0) j) (among js (get_or js i 0)) (among_at js i (omega arith))

pub place : (js : List ℕ) (k : ℕ) → T (among js k) → Place js (length js) k
place [] k t = absurd t
place (j ∷ js) k t = elim (or_cases (eqb k j) (among js k) t) [
  | inl q ↦ record { at = zero; early = omega arith; within = omega arith; is = sym (eqb→eq k j q) }
  | inr s ↦
      let p = place js k s in
      record { at = suc p.at; early = omega (arith, p.within); within = omega (arith, p.within); is = p.is }
]

pub place_in_front : (js : List ℕ) (n k : ℕ) → T (among (take n js) k) → Place js n k
place_in_front js n k t =
    let p = place (take n js) k t in
    let long = length-take n js in
    let inside = p.within in
    let early : p.at < n = omega arith in
    record { at = p.at; early = early; within = omega arith; is = sym (get_or-take n js p.at 0 early) ∙ p.is }

-- the front with one more
front_more : (js : List ℕ) (t k : ℕ) → t < length js → among (take (suc t) js) k ≡ with_link (among (take t js)) (get_or js t 0) k
front_more js t k l = ap (λ ks. among ks k) (take-suc js t 0 l) ∙ among_push (take t js) (get_or js t 0) k

-- places in a list with no link twice
apart_by_place : (js : List ℕ) → Sole js → (i j k h : ℕ) → i < j → j < length js → get_or js i 0 ≡ k → get_or js j 0 ≡ h → k ≡ h → ⊥
apart_by_place js sole i j k h less l p q e = sole i j less l (p ∙ e ∙ sym q)

module _ (in_span : (ℕ → Bool) → ℕ → Bool) (c : Closure in_span) (kept free : ℕ → Bool) (before : ℕ → ℕ → Bool) (js : List ℕ) (sole : Sole js) (alone : Independent in_span kept free before (among js)) (e t : ℕ) (lt : t < length js) (now : T (in_span (among (take (suc t) js)) e)) (not_yet : T (in_span (among (take t js)) e) → ⊥) where
  abbrev X : ℕ → Bool
  X = among js

  abbrev A : ℕ → Bool
  A = among (take t js)

  abbrev l : ℕ
  l = get_or js t 0

  -- the links up to the last lie in the list, and before a later one
  in_list : (n : ℕ) → Within (among (take n js)) X
  in_list n k u = let p = place_in_front js n k u in subst (λ j. T (X j)) p.is (among_at js p.at p.within)

  spanned_by_lem : T (in_span (with_link A l) e)
  spanned_by_lem = more in_span c (among (take (suc t) js)) (with_link A l) (λ k u. subst T (front_more js t k lt) u) e now

  front_without : (s : ℕ) → s < length js → (n : ℕ) → n ≤ s → Within (among (take n js)) (without_link X (get_or js s 0))
  front_without s ls n le k u =
      let p = place_in_front js n k u in
      let early = p.early in
      without_in X (get_or js s 0) k (in_list n k u) (apart_by_place js sole p.at s k (get_or js s 0) (omega arith) ls p.is refl)

  spans_l : T (in_span (without_link X l) e) → T (in_span (with_link A e) l) → T (in_span (without_link X l) l)
  spans_l u v =
      c.grows (with_link A e) (without_link X l) (λ k w. elim (with_cases A e k w) [
        | inl s ↦ c.holds (without_link X l) k (front_without t lt t (omega arith) k s)
        | inr q ↦ subst (λ j. T (in_span (without_link X l) j)) (sym q) u
      ]) l v

  needed : T (in_span (without_link X l) e) → ⊥
  needed u = elim (c.exchange A l e spanned_by_lem) [
    | inl s ↦ not_yet s
    | inr v ↦ alone l (among_at js t lt) (spans_l u v)
  ]

  pub last_on_path_lem : OnPath in_span kept free before X e l
  last_on_path_lem = (among_at js t lt, more in_span c (among (take (suc t) js)) X (in_list (suc t)) e now, needed)

  pub none_later : (f : ℕ) → OnPath in_span kept free before X e f → (s : ℕ) × (s ≤ t) × (get_or js s 0 ≡ f)
  none_later f path =
      let p = place js f path.0 in
      elim (dec_lt t p.at) [
        | yes later ↦
            let off = more in_span c (among (take (suc t) js)) (without_link X (get_or js p.at 0)) (front_without p.at p.within (suc t) (omega arith)) e now in
            absurd (path.2 (subst (λ j. T (in_span (without_link X j) e)) p.is off))
        | no early ↦ (p.at, omega arith, p.is)
      ]
