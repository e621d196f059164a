-- What two walks up tell of the last join that two points needed.
use Rattle.std.proofs.Common.{◌≡◌, ℕ, suc, ◌+◌, ◌<◌, ◌⊎◌, get_or, Some, None, Option, sym, refl, ap, ◌∙◌, inl, inr, arith}
use Rattle.forest.specs.declared.merges.Hang.{Hang}
use Rattle.forest.specs.declared.merges.Merges.{Merges}
use Rattle.forest.specs.Merges.{among, hang_of, joins_of, join_count, NoLater, Remembers, LastJoin}
use Rattle.forest.proofs.MergeNext.{met_in_all}
use Rattle.forest.proofs.MergeRoots.{Stands, hangs_nowhere, hangs_once, to_go, goes_up}
use Rattle.forest.proofs.MergeWalks.{Climbed, walked_in_order, step, never, meets, ends_of}
use Rattle.spanning.specs.Joined.{Graph, Joined}
use Rattle.spanning.proofs.Subsets.{same_or}

-- the parent of a point has fewer joins to go
pub fewer : (m : Merges) (a : ℕ) (h : Hang) → hang_of m a ≡ Some h → to_go (join_count m) (hang_of m h.parent) < to_go (join_count m) (hang_of m a)
fewer m a h is = let up = goes_up (join_count m) h (hang_of m h.parent) (m.hung_by_join a h is) (λ above at. m.rises a h above is at) in omega (arith, ap (to_go (join_count m)) is)

module _ (m : Merges) where
  abbrev pub Reached : ℕ → ℕ → ℕ → ℕ → Option ℕ → Type 0
  Reached x y a b last = Climbed (hang_of m) (join_count m) x y a b last

  -- a number past the points is joined to no other
  pub none_past : (g : Graph) → Remembers m g → (x y : ℕ) → ((x < 1024) × (y < 1024) → ⊥) → (x ≡ y) ⊎ (Joined g (among (joins_of m)) x y → ⊥)
  none_past g told x y past = elim (same_or x y) [
    | inl q ↦ inl q
    | inr other ↦ inr (λ d. elim (ends_of g (among (joins_of m)) told.ends x y d) [ inl q ↦ other q | inr within ↦ past within ])
  ]

  -- of two points reached, the one that was hung first goes up
  module _ (x y a b : ℕ) (last : Option ℕ) (r : Reached x y a b last) (other : a ≡ b → ⊥) (first : Option Hang) (high : ℕ) (both : ((first ≡ hang_of m a) × (high ≡ b)) ⊎ ((first ≡ hang_of m b) × (high ≡ a))) (order : NoLater first (hang_of m high)) where
    found : (low : ℕ) × (first ≡ hang_of m low) × (((low ≡ a) × (high ≡ b)) ⊎ ((low ≡ b) × (high ≡ a)))
    found = elim both [ inl p ↦ (a, p.0, inl (refl, p.1)) | inr p ↦ (b, p.0, inr (refl, p.1)) ]

    abbrev low : ℕ
    low = found.0

    apart : low ≡ high → ⊥
    apart q = elim found.2 [ inl p ↦ other (sym p.0 ∙ q ∙ p.1) | inr p ↦ other (sym p.1 ∙ sym q ∙ p.0) ]

    later : (h : Hang) → first ≡ Some h → Stands (hang_of m) h.join high
    later h is g at = let o = order g at in omega (arith, o.2, hangs_once first h o.0 is o.1)

    pub passed : (h : Hang) → first ≡ Some h → Reached x y h.parent high (Some h.join)
    passed h is =
        let w = walked_in_order (hang_of m) (join_count m) x y a b low high last r other found.2 in
        step (hang_of m) (join_count m) m.hung_by_join m.rises x y low high w.0 h w.1 apart (sym found.1 ∙ is) (later h is)

    pub not_joined : (g : Graph) → Remembers m g → x < 1024 → y < 1024 → first ≡ None → Joined g (among (joins_of m)) x y → ⊥
    not_joined g told lx ly root d =
        let w = walked_in_order (hang_of m) (join_count m) x y a b low high last r other found.2 in
        let no_low : (h : Hang) → first ≡ Some h → ⊥ = λ h is. hangs_nowhere first h root is in
        never (hang_of m) (join_count m) x y low high w.0 w.1 apart (λ h is. no_low h (found.1 ∙ is)) (λ h is. (let o = order h is in no_low o.0 o.1)) (met_in_all m g told x y lx ly d)

    -- on the way up the joins that are left are fewer
    pub falls : (h : Hang) → first ≡ Some h → to_go (join_count m) (hang_of m h.parent) + to_go (join_count m) (hang_of m high) < to_go (join_count m) (hang_of m a) + to_go (join_count m) (hang_of m b)
    falls h is = let less = fewer m low h (sym found.1 ∙ is) in elim found.2 [
      | inl p ↦ omega (arith, ap (λ v. to_go (join_count m) (hang_of m v)) p.0, ap (λ v. to_go (join_count m) (hang_of m v)) p.1)
      | inr p ↦ omega (arith, ap (λ v. to_go (join_count m) (hang_of m v)) p.0, ap (λ v. to_go (join_count m) (hang_of m v)) p.1)
    ]

    pub parent_within : (h : Hang) → first ≡ Some h → h.parent < 1024
    parent_within h is = m.parent_is_point low h (sym found.1 ∙ is)

  pub last_join : (x y a b last : ℕ) → Reached x y a b (Some last) → (g : Graph) → Remembers m g → x < 1024 → y < 1024 → a ≡ b → LastJoin g (joins_of m) x y (get_or (joins_of m) last 0)
  last_join x y a b last r g told lx ly q = record {
    number = last;
    within = r.1;
    is = refl;
    then = told.one_root (suc last) x y r.1 lx ly (meets (hang_of m) (join_count m) x y a b last r.0 q);
    not_before = λ d. r.0.apart (told.roots_met last x y (omega (arith, r.1)) lx ly d);
  }
