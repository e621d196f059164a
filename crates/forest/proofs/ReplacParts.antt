-- Parts of places in a rooted tree: what holds along covered links holds from each place to the root of its part.
use Rattle.std.proofs.Common.{◌≡◌, ℕ, zero, suc, ◌<◌, ◌≤◌, Bool, T, ◌⊎◌, List, length, map, get_or, set, Some, sym, refl, ap, ◌∙◌, subst, inl, inr, arith}
use Rattle.std.proofs.lemmas.List.{get_or-set_same, get_or-set_other}
use Rattle.std.proofs.Math.ListN.{get_or-map}
use Rattle.std.proofs.lemmas.List.{length-map}
use Rattle.spanning.specs.Joined.{Graph, Joined}
use Rattle.spanning.specs.Joined.Joined.{same, forth, back}
use Rattle.spanning.specs.Roots.{Forest, root_of}
use Rattle.spanning.specs.Sets.{without_link}
use Rattle.spanning.proofs.Chains.{join, turn}
use Rattle.spanning.proofs.Climbs.{leads, root_lower, own_root, root_of_parent, hung_forest}
use Rattle.spanning.proofs.Subsets.{same_or, without_in, without_old, without_apart}
use Rattle.forest.specs.declared.rooted.Rooted.{Rooted}
use Rattle.forest.specs.Places.{root_place, parent_of}
use Rattle.forest.specs.Rooted.{count_of, place_of, point_at, parent_at, link_above, Between, RootedTree}
use Rattle.forest.proofs.RootWalk.{place_at, number_of, placed_at, points_apart}
use Rattle.forest.proofs.RootedTrees.{between_joins}

-- what does not change along links of S does not change along chains of them
pub constant : (g : Graph) (S : ℕ → Bool) (f : ℕ → ℕ) → ((e : ℕ) → T (S e) → f (g.first e) ≡ f (g.second e)) → (x y : ℕ) → Joined g S x y → f x ≡ f y
constant g S f h x y (same w) = refl
constant g S f h x y (forth w e t d) = constant g S f h x (g.first e) d ∙ h e t
constant g S f h x y (back w e t d) = constant g S f h x (g.second e) d ∙ sym (h e t)

-- each place is the root of its part, or has its parent's root
abbrev pub Hung : Rooted → List ℕ → Type 0
Hung r parts = (p : ℕ) → p < count_of r → (root_of parts p ≡ p) ⊎ (root_of parts p ≡ root_of parts (parent_at r p))

module _ (r : Rooted) (parts : List ℕ) (hung : Hung r parts) (Rel : ℕ → ℕ → Type 0) (here : (p : ℕ) → Rel p p) (step : (p q : ℕ) → 0 < p → p < count_of r → (root_of parts p ≡ p → ⊥) → Rel (parent_at r p) q → Rel p q) where
  up_to : (n p : ℕ) → p < n → p < count_of r → Rel p (root_of parts p)
  up_to zero p l within = absurd (omega arith)
  up_to (suc n) zero l within = here zero
  up_to (suc n) (suc k) l within =
      let p = suc k in
      elim (same_or (root_of parts p) p) [
        | inl q ↦ subst (λ z. Rel p z) (sym q) (here p)
        | inr apart ↦ elim (hung p within) [
          | inl q ↦ absurd (apart q)
          | inr q ↦
              let low = r.lower p in
              subst (λ z. Rel p z) (sym q) (step p (root_of parts (parent_at r p)) (omega arith) within apart (up_to n (parent_at r p) (omega arith) (omega arith)))
        ]
      ]

  pub to_part_root : (p : ℕ) → p < count_of r → Rel p (root_of parts p)
  to_part_root p l = up_to (suc p) p (omega arith) l

-- the parents of the places, as a list
abbrev parents_of : Rooted → List ℕ
parents_of r = map (λ at. parent_of at.above) r.order.items

parent_is : (r : Rooted) (p : ℕ) → get_or (parents_of r) p 0 ≡ parent_at r p
parent_is r p = get_or-map (λ at. parent_of at.above) r.order.items p root_place

parents_forest : (r : Rooted) → Forest (parents_of r)
parents_forest r p = let e = parent_is r p in let l = r.lower p in omega arith

module _ (g : Graph) (points : ℕ) (X : ℕ → Bool) (r : Rooted) (tree : RootedTree g points X r) where
  abbrev ps : List ℕ
  ps = parents_of r

  abbrev point : ℕ → ℕ
  point = point_at r

  abbrev place : ℕ → ℕ
  place = place_at r

  abbrev up : ℕ → ℕ
  up = parent_at r

  abbrev link : ℕ → ℕ
  link = link_above r

  -- every point has its place
  pub place_is : (x : ℕ) → x < points → place_of r x ≡ Some (place_at r x)
  place_is x l = let h = tree.placed x l in h.1 ∙ ap Some (sym (number_of r x h.0 h.1))

  pub place_below : (x : ℕ) → x < points → place_at r x < count_of r
  place_below x l = ((r.agree x (place_at r x)).0 (place_is x l)).0

  point_back : (x : ℕ) → x < points → point_at r (place_at r x) ≡ x
  point_back x l = ((r.agree x (place_at r x)).0 (place_is x l)).1

  up_count : (p : ℕ) → 0 < p → p < count_of r → parent_at r p < count_of r
  up_count p some l = let h = r.lower p in omega arith

  place_point : (p : ℕ) → p < count_of r → place_at r (point_at r p) ≡ p
  place_point p l = number_of r (point_at r p) p (placed_at r p l)

  -- the places of a link's ends
  ends_places : (f : ℕ → ℕ) (p : ℕ) → 0 < p → p < count_of r → f p ≡ f (parent_at r p) → f (place_at r (g.first (link_above r p))) ≡ f (place_at r (g.second (link_above r p)))
  ends_places f p some l e = elim (tree.linked.ends p some l) [
    | inl q ↦ ap (λ x. f (place x)) q.0 ∙ ap f (place_point p l) ∙ e ∙ sym (ap f (place_point (up p) (up_count p some l))) ∙ sym (ap (λ x. f (place x)) q.1)
    | inr q ↦ ap (λ x. f (place x)) q.0 ∙ ap f (place_point (up p) (up_count p some l)) ∙ sym e ∙ sym (ap f (place_point p l)) ∙ sym (ap (λ x. f (place x)) q.1)
  ]

  -- different places have different links above them
  pub above_apart : (p q : ℕ) → 0 < p → p < count_of r → 0 < q → q < count_of r → link p ≡ link q → p ≡ q
  above_apart p q sp lp sq lq e = by_ends (tree.linked.ends p sp lp) (subst (λ k. Between g k (point q) (point (up q))) (sym e) (tree.linked.ends q sq lq))
    where
      by_ends : Between g (link p) (point p) (point (up p)) → Between g (link p) (point q) (point (up q)) → p ≡ q
      by_ends (inl a) (inl b) = points_apart r p q lp lq (sym a.0 ∙ b.0)
      by_ends (inr a) (inr b) = points_apart r p q lp lq (sym a.1 ∙ b.1)
      by_ends (inl a) (inr b) =
          let u = points_apart r p (up q) lp (up_count q sq lq) (sym a.0 ∙ b.0) in
          let v = points_apart r (up p) q (up_count p sp lp) lq (sym a.1 ∙ b.1) in
          absurd (let x = r.lower p in let y = r.lower q in omega arith)
      by_ends (inr a) (inl b) =
          let u = points_apart r (up p) q (up_count p sp lp) lq (sym a.0 ∙ b.0) in
          let v = points_apart r p (up q) lp (up_count q sq lq) (sym a.1 ∙ b.1) in
          absurd (let x = r.lower p in let y = r.lower q in omega arith)

  -- the tree cut above z: z becomes a root
  module _ (z : ℕ) (some : 0 < z) (lz : z < count_of r) where
    abbrev pub cut : List ℕ
    cut = set (parents_of r) z z

    long : z < length (parents_of r)
    long = let n = length-map r.order.items (λ at. parent_of at.above) in omega arith

    cut_forest : Forest (set (parents_of r) z z)
    cut_forest = hung_forest (parents_of r) (parents_forest r) z z (omega arith) long

    cut_top : root_of cut z ≡ z
    cut_top = own_root cut z (get_or-set_same ps z z 0 long)

    cut_lower : (w : ℕ) → root_of cut w ≤ w
    cut_lower w = root_lower cut cut_forest w (root_of cut w) (leads cut cut_forest w)

    cut_along : (q : ℕ) → (q ≡ z → ⊥) → root_of cut q ≡ root_of cut (up q)
    cut_along q apart = sym (root_of_parent cut cut_forest q) ∙ ap (root_of cut) (get_or-set_other ps z q z 0 apart ∙ parent_is r q)

    cut_link : (e : ℕ) → T (without_link X (link z) e) → root_of cut (place (g.first e)) ≡ root_of cut (place (g.second e))
    cut_link e t =
        let a = tree.all e (without_old X (link z) e t) in
        let q = a.0 in
        let apart : q ≡ z → ⊥ = λ s. without_apart X (link z) e t (sym a.3 ∙ ap (link_above r) s) in
        subst (λ k. root_of cut (place (g.first k)) ≡ root_of cut (place (g.second k))) a.3 (ends_places (root_of cut) q a.1 a.2 (cut_along q apart))

    -- points that the rest of the tree joins are on one side of the cut
    pub one_side : (x y : ℕ) → Joined g (without_link X (link z)) x y → root_of cut (place x) ≡ root_of cut (place y)
    one_side x y d = constant g (without_link X (link z)) (λ u. root_of cut (place u)) cut_link x y d

    module _ (parts : List ℕ) (hung : Hung r parts) (lone : root_of parts z ≡ z) where
      -- covered links are on one side
      side_root : (p : ℕ) → p < count_of r → root_of cut p ≡ root_of cut (root_of parts p)
      side_root = to_part_root r parts hung (λ p q. root_of cut p ≡ root_of cut q) (λ p. refl) (λ p q sp lp moved e. cut_along p (λ s. moved (ap (root_of parts) s ∙ lone ∙ sym s)) ∙ e)

      -- a lower root is on the other side
      pub two_sides : (a b : ℕ) → a < count_of r → b < count_of r → root_of parts a ≡ z → root_of parts b < z → root_of cut a ≡ root_of cut b → ⊥
      two_sides a b la lb top-a low-b e =
          let u : root_of cut a ≡ z = side_root a la ∙ ap (root_of cut) top-a ∙ cut_top in
          let v : root_of cut b ≤ root_of parts b = subst (λ w. w ≤ root_of parts b) (sym (side_root b lb)) (cut_lower (root_of parts b)) in
          omega arith

      -- the rest of the tree joins the points of a part
      pub part_joined : (p : ℕ) → p < count_of r → Joined g (without_link X (link z)) (point p) (point (root_of parts p))
      part_joined = to_part_root r parts hung (λ p q. Joined g (without_link X (link z)) (point p) (point q)) (λ p. same (point p))
          (λ p q sp lp moved d. join g (without_link X (link z)) (point p) (point (up p)) (point q)
          (between_joins g (without_link X (link z)) (link p) (point p) (point (up p)) (without_in X (link z) (link p) (tree.linked.holds p sp lp) (λ s. moved (let w = above_apart p z sp lp some lz s in ap (root_of parts) w ∙ lone ∙ sym w))) (tree.linked.ends p sp lp)) d)

      pub same_part_joined : (x y : ℕ) → x < points → y < points → root_of parts (place x) ≡ root_of parts (place y) → Joined g (without_link X (link z)) x y
      same_part_joined x y lx ly e =
          let S = without_link X (link z) in
          let a = part_joined (place x) (place_below x lx) in
          let b = turn g S (point (place y)) (point (root_of parts (place y))) (part_joined (place y) (place_below y ly)) in
          let d = join g S (point (place x)) (point (root_of parts (place x))) (point (place y)) a (subst (λ w. Joined g S (point w) (point (place y))) (sym e) b) in
          subst (λ u. Joined g S u y) (point_back x lx) (subst (λ v. Joined g S (point (place x)) v) (point_back y ly) d)
