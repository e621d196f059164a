-- One more point with a place.
use Rattle.std.proofs.Common.{◌≡◌, ℕ, ◌+◌, ◌<◌, ◌≤◌, Bool, T, ◌⊎◌, [], ◌∷◌, length, get_or, Some, None, Option, is_some, true, unwrap_or, sym, refl, ap, ◌∙◌, subst, inl, inr, arith}
use native.Mathlib.Decide.{dec_lt}
use Rattle.std.proofs.lemmas.List.{get_or_past}
use Rattle.std.proofs.lemmas.Option.{same_Some}
use Rattle.spanning.specs.Joined.{Graph}
use Rattle.spanning.proofs.Subsets.{same_or}
use Rattle.forest.specs.declared.rooted.Place.{Place}
use Rattle.forest.specs.declared.rooted.Rooted.{Rooted}
use Rattle.forest.specs.Places.{root_place, parent_of, link_of}
use Rattle.forest.specs.Rooted.{count_of, place_of, point_at, parent_at, link_above, Between, Numbered, Linked, Placed, Added}
use Rattle.forest.proofs.RootCount.{one_left}
use Rattle.forest.proofs.RootPlaces.{length_more, at_old, at_last}

-- the number of a point's place
abbrev pub place_at : Rooted → ℕ → ℕ
place_at r x = unwrap_or (place_of r x) 0

pub number_of : (r : Rooted) (x p : ℕ) → place_of r x ≡ Some p → place_at r x ≡ p
number_of r x p e = ap (λ o. unwrap_or o 0) e

module _ (r : Rooted) where
  pub placed_at : (p : ℕ) → p < count_of r → place_of r (point_at r p) ≡ Some p
  placed_at p l = (r.agree (point_at r p) p).1 (l, refl)

  -- different places have different points
  pub points_apart : (p q : ℕ) → p < count_of r → q < count_of r → point_at r p ≡ point_at r q → p ≡ q
  points_apart p q lp lq e = same_Some p q (sym (placed_at p lp) ∙ ap (place_of r) e ∙ placed_at q lq)

  pub placed_some : (x : ℕ) → is_some (place_of r x) ≡ true → Placed r x
  placed_some x some = by_value (place_of r x) refl some where
    by_value : (o : Option ℕ) → place_of r x ≡ o → is_some o ≡ true → Placed r x
    by_value None e s = absurd (let z : ◌≡◌ {A = ℕ} 0 1 = cc in omega arith)
    by_value (Some p) e s = let h = (r.agree x p).0 e in (p, h.0, h.1)

  pub root_first : (0 < count_of r) × (point_at r 0 ≡ 0)
  root_first = (r.agree 0 0).0 r.root

  point_within : (p : ℕ) → p < count_of r → point_at r p < 1024
  point_within p l = elim (dec_lt (point_at r p) 1024) [
    | yes within ↦ within
    | no past ↦ absurd (let none : place_of r (point_at r p) ≡ None = get_or_past r.places (point_at r p) None (let h = r.long in omega arith) in let has = placed_at p l in let e : ◌≡◌ {A = ℕ} 0 1 = cc in omega arith)
  ]

  -- as many places as points below a number that has all the points with places
  pub places_few : (points : ℕ) → ((p : ℕ) → p < count_of r → point_at r p < points) → count_of r ≤ points
  places_few points below = let h = one_left (points + 1) (count_of r) (point_at r) points (λ p l. let b = below p l in omega arith) points_apart (omega arith) (λ p l e. let b = below p l in omega arith) in omega arith

  pub numbered_all : (points : ℕ) → ((p : ℕ) → p < count_of r → point_at r p < points) → Numbered points r
  numbered_all points below = record {
    some = root_first.0;
    few = places_few points below;
    root = root_first.1;
    point = below;
    back = placed_at;
    place = λ x p l e. (r.agree x p).0 e;
  }

  module _ (x : ℕ) (new : place_of r x ≡ None) (lx : x < 1024) where
    -- a point with no place is none of those with places
    not_placed : (p : ℕ) → p < count_of r → point_at r p ≡ x → ⊥
    not_placed p l e = absurd (let has : place_of r x ≡ Some p = ap (place_of r) (sym e) ∙ placed_at p l in let z : ◌≡◌ {A = ℕ} 0 1 = cc in omega arith)

    pub room : count_of r < 1024
    room = one_left 1024 (count_of r) (point_at r) x point_within points_apart lx not_placed

  module _ (x : ℕ) (s : Rooted) (at link : ℕ) (add : Added r s x (record { parent = at; link = link })) (la : at < count_of r) where
    abbrev y : Place
    y = record { point = x; above = Some (record { parent = at; link = link }) }

    counted : count_of s ≡ count_of r + 1
    counted = ap length add.ordered ∙ length_more r.order.items y

    old_is : (p : ℕ) → p < count_of r → get_or s.order.items p root_place ≡ get_or r.order.items p root_place
    old_is p l = ap (λ o. get_or o p root_place) add.ordered ∙ at_old r.order.items y p l

    last_is : get_or s.order.items (count_of r) root_place ≡ y
    last_is = ap (λ o. get_or o (count_of r) root_place) add.ordered ∙ at_last r.order.items y (count_of r) refl

    order_old : (p : ℕ) → p < count_of r → point_at s p ≡ point_at r p
    order_old p l = ap (λ z. z.point) (old_is p l)

    -- a place is the last or one of the old
    last_or : (p : ℕ) → p < count_of s → (p ≡ count_of r) ⊎ (p < count_of r)
    last_or p l = let c = counted in elim (same_or p (count_of r)) [ inl q ↦ inl q | inr apart ↦ inr (omega arith) ]

    module _ (g : Graph) (X : ℕ → Bool) (own : T (X link)) (joins : Between g link x (point_at r at)) (was : Linked g X r) where
      holds_one : (p : ℕ) → 0 < p → p < count_of s → T (X (link_above s p))
      holds_one p some l = elim (last_or p l) [
        | inl q ↦ subst (λ k. T (X k)) (sym (ap (link_above s) q ∙ ap (λ z. link_of z.above) last_is)) own
        | inr o ↦ subst (λ k. T (X k)) (sym (ap (λ z. link_of z.above) (old_is p o))) (was.holds p some o)
      ]

      ends_by : (p up : ℕ) → link_above s p ≡ link → point_at s p ≡ x → parent_at s p ≡ up → point_at s up ≡ point_at r at → Between g (link_above s p) (point_at s p) (point_at s (parent_at s p))
      ends_by p up a b c d = subst (λ k. Between g k (point_at s p) (point_at s (parent_at s p))) (sym a) (subst (λ k. Between g link k (point_at s (parent_at s p))) (sym b) (subst (λ k. Between g link x k) (sym (ap (point_at s) c ∙ d)) joins))

      ends_last : Between g (link_above s (count_of r)) (point_at s (count_of r)) (point_at s (parent_at s (count_of r)))
      ends_last = ends_by (count_of r) at (ap (λ z. link_of z.above) last_is) (ap (λ z. z.point) last_is) (ap (λ z. parent_of z.above) last_is) (order_old at la)

      ends_one : (p : ℕ) → 0 < p → p < count_of s → Between g (link_above s p) (point_at s p) (point_at s (parent_at s p))
      ends_one p some l = elim (last_or p l) [
        | inl q ↦ subst (λ z. Between g (link_above s z) (point_at s z) (point_at s (parent_at s z))) (sym q) ends_last
        | inr o ↦
            let low = r.lower p in
            let up : point_at s (parent_at s p) ≡ point_at r (parent_at r p) = ap (λ z. point_at s (parent_of z.above)) (old_is p o) ∙ order_old (parent_at r p) (omega arith) in
            subst (λ k. Between g k (point_at s p) (point_at s (parent_at s p))) (sym (ap (λ z. link_of z.above) (old_is p o)))
            (subst (λ a. Between g (link_above r p) a (point_at s (parent_at s p))) (sym (order_old p o)) (subst (λ b. Between g (link_above r p) (point_at r p) b) (sym up) (was.ends p some o)))
      ]

      pub linked_one : Linked g X s
      linked_one = record { holds = holds_one; ends = ends_one }

-- the first place: point 0 alone
pub linked_start : (g : Graph) (X : ℕ → Bool) (r : Rooted) → r.order.items ≡ root_place ∷ [] → Linked g X r
linked_start g X r one = let c : count_of r ≡ 1 = ap length one in record { holds = λ p some l. absurd (omega arith); ends = λ p some l. absurd (omega arith) }
