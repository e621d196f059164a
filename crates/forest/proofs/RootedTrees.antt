-- What a finished walk knows of a tree.
use Rattle.std.proofs.Common.{◌≡◌, ℕ, zero, suc, ◌<◌, Bool, true, ◌&&◌, T, eqb, ltb, sym, ap, ◌∙◌, subst, inl, inr, arith, eqb→eq}
use lib.Dec.{eqb_refl}
use Rattle.spanning.specs.Joined.{Graph, Joined, Spans, NoRing}
use Rattle.spanning.specs.Joined.Joined.{same, forth, back}
use Rattle.spanning.specs.Sets.{without_link}
use Rattle.spanning.proofs.Chains.{join, turn}
use Rattle.spanning.proofs.Search.{find}
use Rattle.spanning.proofs.Subsets.{without_in, and_both, and_left, and_right}
use Rattle.forest.specs.declared.rooted.Rooted.{Rooted}
use Rattle.forest.specs.Rooted.{count_of, place_of, point_at, parent_at, link_above, Between, Linked, Placed, Swept, RootedTree}
use Rattle.forest.specs.declared.rooted.links_by_end.ends.End.TheVariants.{First, Second}
use Rattle.forest.proofs.RootWalk.{placed_at, root_first, numbered_all}

-- a link between two points joins them, either way
pub between_joins : (g : Graph) (S : ℕ → Bool) (e a b : ℕ) → T (S e) → Between g e a b → Joined g S a b
between_joins g S e a b t (inl q) = subst (λ x. Joined g S x b) q.0 (subst (λ y. Joined g S (g.first e) y) q.1 (forth (g.first e) e t (same (g.first e))))
between_joins g S e a b t (inr q) = subst (λ x. Joined g S x b) q.1 (subst (λ y. Joined g S (g.second e) y) q.0 (back (g.second e) e t (same (g.second e))))

-- every point that the links of X join to point 0 has a place
module _ (g : Graph) (X : ℕ → Bool) (r : Rooted) (swept : (p : ℕ) → p < count_of r → Swept g X r p) where
  reached : (x y : ℕ) → Placed r x → Joined g X x y → Placed r y
  reached x y h (same w) = h
  reached x y h (forth w e t d) = let from = reached x (g.first e) h d in swept from.0 from.1 First e t (sym from.2)
  reached x y h (back w e t d) = let from = reached x (g.second e) h d in swept from.0 from.1 Second e t (sym from.2)

module _ (g : Graph) (points : ℕ) (X : ℕ → Bool) (r : Rooted) (linked : Linked g X r) where
  -- each place is joined to the root by links above places, if none of these is e
  module _ (e : ℕ) (none : (p : ℕ) → 0 < p → p < count_of r → link_above r p ≡ e → ⊥) where
    to_root : (n p : ℕ) → p < n → p < count_of r → Joined g (without_link X e) (point_at r p) (point_at r 0)
    to_root zero p l within = absurd (omega arith)
    to_root (suc n) zero l within = same (point_at r 0)
    to_root (suc n) (suc q) l within =
        let p = suc q in
        let up = parent_at r p in
        let low = r.lower p in
        join g (without_link X e) (point_at r p) (point_at r up) (point_at r 0)
        (between_joins g (without_link X e) (link_above r p) (point_at r p) (point_at r up) (without_in X e (link_above r p) (linked.holds p (omega arith) within) (none p (omega arith) within)) (linked.ends p (omega arith) within))
        (to_root n up (omega arith) (omega arith))

    none_ring : Placed r (g.first e) → Placed r (g.second e) → Spans g (without_link X e) e
    none_ring a b =
        let S = without_link X e in
        subst (λ x. Joined g S x (g.second e)) a.2 (subst (λ y. Joined g S (point_at r a.0) y) b.2
        (join g S (point_at r a.0) (point_at r 0) (point_at r b.0) (to_root (suc a.0) a.0 (omega arith) a.1) (turn g S (point_at r b.0) (point_at r 0) (to_root (suc b.0) b.0 (omega arith) b.1))))

  module _ (swept : (p : ℕ) → p < count_of r → Swept g X r p) (firsts : (e : ℕ) → g.first e < points) (seconds : (e : ℕ) → g.second e < points) (joins : (x : ℕ) → x < points → Joined g X 0 x) (some : 0 < points) (no_ring : NoRing g X) where
    all_placed : (x : ℕ) → x < points → Placed r x
    all_placed x l = reached g X r swept 0 x (0, (root_first r).0, (root_first r).1) (joins x l)

    -- the points with places are below the number of points
    either : (e a b : ℕ) → Between g e a b → a < points
    either e a b (inl q) = subst (λ x. x < points) q.0 (firsts e)
    either e a b (inr q) = subst (λ x. x < points) q.1 (seconds e)

    point_below : (p : ℕ) → p < count_of r → point_at r p < points
    point_below zero l = subst (λ x. x < points) (sym (root_first r).1) some
    point_below (suc q) l = either (link_above r (suc q)) (point_at r (suc q)) (point_at r (parent_at r (suc q))) (linked.ends (suc q) (omega arith) l)

    above_all : (e : ℕ) → T (X e) → (p : ℕ) × (0 < p) × (p < count_of r) × (link_above r p ≡ e)
    above_all e t =
        elim (find (λ p. ltb 0 p && eqb (link_above r p) e) (count_of r)) [
          | inl found ↦
              let p = found.0 in
              let some : 0 < p = (let u = and_left (ltb 0 p) (eqb (link_above r p) e) found.2 in grind arith) in
              (p, some, found.1, eqb→eq (link_above r p) e (and_right (ltb 0 p) (eqb (link_above r p) e) found.2))
          | inr no_place ↦ absurd (no_ring e t (none_ring e (λ p some l q. no_place p l (and_both (ltb 0 p) (eqb (link_above r p) e) (let u : ltb 0 p ≡ true = grind arith in subst (λ b. T b) (sym u) tt) (subst (λ k. T (eqb (link_above r p) k)) q (eqb_refl (link_above r p))))) (all_placed (g.first e) (firsts e)) (all_placed (g.second e) (seconds e))))
        ]

    pub rooted_tree : RootedTree g points X r
    rooted_tree = record {
      numbered = numbered_all r points point_below;
      linked = linked;
      placed = λ x l. let h = all_placed x l in (h.0, ap (place_of r) (sym h.2) ∙ placed_at r h.0 h.1, h.1, h.2);
      all = above_all;
    }
