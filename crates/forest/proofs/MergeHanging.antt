-- What stays true when a root is hung.
use Rattle.std.proofs.Common.{◌≡◌, ℕ, zero, suc, ◌+◌, ◌<◌, cond, List, length, get_or, set, replicate, count_by, Some, None, Option, is_none, sym, refl, ap, ◌∙◌, inl, inr, arith}
use Rattle.std.proofs.lemmas.List.{get_or-set_same, get_or-set_other, length-set}
use Rattle.std.proofs.lemmas.List.Sums.{sum_by-set}
use Rattle.forest.specs.declared.merges.Hang.{Hang}
use Rattle.forest.specs.declared.merges.Node.{Node}
use Rattle.forest.specs.Hangs.{hang_in, is_root}
use Rattle.forest.proofs.MergeRoots.{hangs_nowhere}
use Rattle.spanning.proofs.Subsets.{same_or}

-- the join number n hangs the root a from the root b
module _ (hang hang' : ℕ → Option Hang) (n a b : ℕ) (now : hang' a ≡ Some (record { parent = b; join = n })) (others : (x : ℕ) → (x ≡ a → ⊥) → hang' x ≡ hang x) (apart : a ≡ b → ⊥) (root : hang b ≡ None) where
  by_this : (h : Hang) → hang' a ≡ Some h → h ≡ record { parent = b; join = n }
  by_this h is = cc

  pub parent_still : b < 1024 → ((x : ℕ) (h : Hang) → hang x ≡ Some h → h.parent < 1024) → (x : ℕ) (h : Hang) → hang' x ≡ Some h → h.parent < 1024
  parent_still b-in old x h is = elim (same_or x a) [
    | inl q ↦ let e = ap (λ k. k.parent) (by_this h (ap hang' (sym q) ∙ is)) in omega arith
    | inr other ↦ old x h (sym (others x other) ∙ is)
  ]

  pub join_still : ((x : ℕ) (h : Hang) → hang x ≡ Some h → h.join < n) → (x : ℕ) (h : Hang) → hang' x ≡ Some h → h.join < n + 1
  join_still old x h is = elim (same_or x a) [
    | inl q ↦ let e = ap (λ k. k.join) (by_this h (ap hang' (sym q) ∙ is)) in omega arith
    | inr other ↦ omega (arith, old x h (sym (others x other) ∙ is))
  ]

  pub rises_still : ((x : ℕ) (h : Hang) → hang x ≡ Some h → h.join < n) → ((x : ℕ) (h above : Hang) → hang x ≡ Some h → hang h.parent ≡ Some above → h.join < above.join) → (x : ℕ) (h above : Hang) → hang' x ≡ Some h → hang' h.parent ≡ Some above → h.join < above.join
  rises_still early old x h above is at = elim (same_or x a) [
    | inl q ↦
        let e = ap (λ k. k.parent) (by_this h (ap hang' (sym q) ∙ is)) in
        absurd (hangs_nowhere (hang b) above root (sym (others b (λ p. apart (sym p))) ∙ ap hang' (sym e) ∙ at))
    | inr other ↦
        let was = sym (others x other) ∙ is in
        elim (same_or h.parent a) [
          | inl q ↦ let e = ap (λ k. k.join) (by_this above (ap hang' (sym q) ∙ at)) in omega (arith, early x h was)
          | inr still ↦ old x h above was (sym (others h.parent still) ∙ at)
        ]
  ]

-- the nodes, where the join number n hangs the root a from the root b
module _ (ns : List Node) (a b n : ℕ) (below above : Node) (a_in : a < length ns) (b-in : b < length ns) (apart : a ≡ b → ⊥) (a_root : hang_in ns a ≡ None) (b-root : hang_in ns b ≡ None) (hung : below.hang ≡ Some (record { parent = b; join = n })) (still : above.hang ≡ None) where
  abbrev ns' : List Node
  ns' = set (set ns b above) a below

  abbrev outside : Node
  outside = record { hang = None; size = 0 }

  hung_now : hang_in ns' a ≡ Some (record { parent = b; join = n })
  hung_now = ap (λ k. k.hang) (get_or-set_same (set ns b above) a below outside (omega (arith, length-set ns b above))) ∙ hung

  others_still : (x : ℕ) → (x ≡ a → ⊥) → hang_in ns' x ≡ hang_in ns x
  others_still x other = ap (λ k. k.hang) (get_or-set_other (set ns b above) a x below outside other) ∙ (elim (same_or x b) [
    | inl q ↦ ap (λ y. hang_in (set ns b above) y) q ∙ ap (λ k. k.hang) (get_or-set_same ns b above outside b-in) ∙ still ∙ sym b-root ∙ ap (hang_in ns) (sym q)
    | inr apart-b ↦ ap (λ k. k.hang) (get_or-set_other ns b x above outside apart-b)
  ])

  pub parents_still : b < 1024 → ((x : ℕ) (h : Hang) → hang_in ns x ≡ Some h → h.parent < 1024) → (x : ℕ) (h : Hang) → hang_in ns' x ≡ Some h → h.parent < 1024
  parents_still = parent_still (hang_in ns) (hang_in ns') n a b hung_now others_still apart b-root

  pub joins_still : (n' : ℕ) → n' ≡ n + 1 → ((x : ℕ) (h : Hang) → hang_in ns x ≡ Some h → h.join < n) → (x : ℕ) (h : Hang) → hang_in ns' x ≡ Some h → h.join < n'
  joins_still n' more old x h is = omega (arith, join_still (hang_in ns) (hang_in ns') n a b hung_now others_still apart b-root old x h is)

  pub all_rise : ((x : ℕ) (h : Hang) → hang_in ns x ≡ Some h → h.join < n) → ((x : ℕ) (h over : Hang) → hang_in ns x ≡ Some h → hang_in ns h.parent ≡ Some over → h.join < over.join) → (x : ℕ) (h over : Hang) → hang_in ns' x ≡ Some h → hang_in ns' h.parent ≡ Some over → h.join < over.join
  all_rise = rises_still (hang_in ns) (hang_in ns') n a b hung_now others_still apart b-root

  -- a hung root is one root fewer
  one_fewer : count_by is_root ns' + 1 ≡ count_by is_root ns
  one_fewer =
      let counts : Node → ℕ = λ k. cond (is_root k) 1 0 in
      let first = sum_by-set counts ns b above outside b-in in
      let second = sum_by-set counts (set ns b above) a below outside (omega (arith, length-set ns b above)) in
      let at_a = ap (λ k. k.hang) (get_or-set_other ns b a above outside apart) ∙ a_root in
      let was_a : ◌≡◌ {A = ℕ} (counts (get_or (set ns b above) a outside)) 1 = ap (λ o. cond (is_none o) 1 0) at_a in
      let was_b : ◌≡◌ {A = ℕ} (counts (get_or ns b outside)) 1 = ap (λ o. cond (is_none o) 1 0) b-root in
      let is_b : ◌≡◌ {A = ℕ} (counts above) 1 = ap (λ o. cond (is_none o) 1 0) still in
      let is_a : ◌≡◌ {A = ℕ} (counts below) 0 = ap (λ o. cond (is_none o) 1 0) hung in
      omega arith

  pub counted_still : (n' : ℕ) → n' ≡ n + 1 → n + count_by is_root ns ≡ 1024 → n' + count_by is_root ns' ≡ 1024
  counted_still n' more counted = omega (arith, one_fewer)

-- at first each point is a root
none_hung : (n x : ℕ) → hang_in (replicate n (record { hang = None; size = 0 })) x ≡ None
none_hung zero x = refl
none_hung (suc n) zero = refl
none_hung (suc n) (suc x) = none_hung n x

pub none_hangs : (n x : ℕ) (h : Hang) → hang_in (replicate n (record { hang = None; size = 0 })) x ≡ Some h → ⊥
none_hangs n x h is = hangs_nowhere (hang_in (replicate n (record { hang = None; size = 0 })) x) h (none_hung n x) is
