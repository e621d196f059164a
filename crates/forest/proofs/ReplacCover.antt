-- Covering the links of a tree: one link more, one link of the list done, and what is known at the end.
use Rattle.std.proofs.Common.{◌≡◌, ℕ, zero, suc, ◌+◌, ◌<◌, ◌≤◌, min, max, Bool, cond, T, eqb, ◌⊎◌, List, length, get_or, set, replicate, Some, None, Option, sym, refl, ap, ◌∙◌, subst, inl, inr, arith}
use Rattle.std.proofs.lemmas.List.{get_or-set_same, get_or-set_other}
use Rattle.spanning.specs.Joined.{Graph, Spans}
use Rattle.spanning.specs.Roots.{Forest, root_of, under}
use Rattle.spanning.specs.Sets.{without_link}
use Rattle.spanning.proofs.Climbs.{leads, root_lower, own_root, root_is_root}
use Rattle.spanning.proofs.Labels.{moved, stays}
use Rattle.spanning.proofs.Subsets.{same_or}
use Rattle.forest.specs.declared.rooted.Rooted.{Rooted}
use Rattle.forest.specs.Rooted.{count_of, place_of, parent_at, link_above, RootedTree, NoneBefore, FirstRejoining, Replaced, Covering}
use Rattle.forest.proofs.RootWalk.{place_at}
use Rattle.forest.proofs.ReplacParts.{place_is, place_below, cut, one_side, two_sides, same_part_joined}

-- a root joined to a lower part goes under that part's root
module _ (parts parts' : List ℕ) (a b u : ℕ) (same-u : u ≡ b) (own : root_of parts a ≡ a) (less : root_of parts b < a) (after : (w : ℕ) → root_of parts' w ≡ under parts (min (root_of parts a) (root_of parts u)) (max (root_of parts a) (root_of parts u)) w) where
  pub lower_under : (w : ℕ) → root_of parts' w ≡ under parts (root_of parts b) a w
  lower_under w =
      let root-u : root_of parts u ≡ root_of parts b = ap (root_of parts) same-u in
      let low : min (root_of parts a) (root_of parts u) ≡ root_of parts b = omega arith in
      let high : max (root_of parts a) (root_of parts u) ≡ a = omega arith in
      after w ∙ ap (λ l. under parts l (max (root_of parts a) (root_of parts u)) w) low ∙ ap (λ h. under parts (root_of parts b) h w) high

-- a root is its own root
pub root_again : (parts : List ℕ) → Forest parts → (a z : ℕ) → root_of parts a ≡ z → root_of parts z ≡ z
root_again parts forest a z e = ap (root_of parts) (sym e) ∙ own_root parts (root_of parts a) (root_is_root parts forest a) ∙ e

-- only the roots of the parts count
pub covering_same : (g : Graph) (X : ℕ → Bool) (order : List ℕ) (r : Rooted) (i : ℕ) (parts parts' : List ℕ) (out : List (Option ℕ)) → ((z : ℕ) → root_of parts' z ≡ root_of parts z) → Covering g X order r i parts out → Covering g X order r i parts' out
covering_same g X order r i parts parts' out roots cov = record {
  hung = λ p l. elim (cov.hung p l) [ inl e ↦ inl (roots p ∙ e) | inr e ↦ inr (roots p ∙ e ∙ sym (roots (parent_at r p))) ];
  lone = λ p some l none. roots p ∙ cov.lone p some l none;
  told = cov.told;
  met = λ j a b l out-j first second. roots a ∙ cov.met j a b l out-j first second ∙ sym (roots b);
}

some_none : (v : Option ℕ) (l : ℕ) → v ≡ Some l → v ≡ None → ⊥
some_none v l p q = let z : ◌≡◌ {A = ℕ} 0 1 = cc in omega arith

pub same_some : (v : Option ℕ) (l k : ℕ) → v ≡ Some l → v ≡ Some k → l ≡ k
same_some v l k p q = cc

nothings : (n e : ℕ) → get_or (replicate {A = Option ℕ} n None) e None ≡ None
nothings zero e = refl
nothings (suc n) zero = refl
nothings (suc n) (suc e) = nothings n e

-- no link of the list yet
pub covering_none : (g : Graph) (X : ℕ → Bool) (order : List ℕ) (r : Rooted) (parts : List ℕ) → count_of r ≤ 1024 → ((z : ℕ) → z < 1024 → root_of parts z ≡ z) → Covering g X order r 0 parts (replicate 2048 None)
covering_none g X order r parts few own = record {
  hung = λ p l. inl (own p (omega arith));
  lone = λ p some l none. own p (omega arith);
  told = λ e l s. absurd (some_none (get_or (replicate 2048 None) e None) l s (nothings 2048 e));
  met = λ j a b l. absurd (omega arith);
}

module _ (g : Graph) (points : ℕ) (X : ℕ → Bool) (order : List ℕ) (r : Rooted) (tree : RootedTree g points X r) (firsts : (e : ℕ) → g.first e < points) (seconds : (e : ℕ) → g.second e < points) where
  abbrev link : ℕ → ℕ
  link = link_above r

  abbrev place : ℕ → ℕ
  place = place_at r

  -- a and b are the places of a link's ends, either way round
  abbrev pub Ends : ℕ → ℕ → ℕ → Type 0
  Ends l a b = ((a ≡ place (g.first l)) × (b ≡ place (g.second l))) ⊎ ((a ≡ place (g.second l)) × (b ≡ place (g.first l)))

  ends_below : (l a b : ℕ) → Ends l a b → (a < count_of r) × (b < count_of r)
  ends_below l a b (inl q) = let x = place_below g points X r tree (g.first l) (firsts l) in let y = place_below g points X r tree (g.second l) (seconds l) in (omega arith, omega arith)
  ends_below l a b (inr q) = let x = place_below g points X r tree (g.first l) (firsts l) in let y = place_below g points X r tree (g.second l) (seconds l) in (omega arith, omega arith)

  along : (l a b : ℕ) → Ends l a b → (f : ℕ → ℕ) → f (place (g.first l)) ≡ f (place (g.second l)) → f a ≡ f b
  along l a b (inl q) f e = ap f q.0 ∙ e ∙ sym (ap f q.1)
  along l a b (inr q) f e = ap f q.0 ∙ sym e ∙ sym (ap f q.1)

  module _ (i : ℕ) (parts : List ℕ) (out : List (Option ℕ)) (cov : Covering g X order r i parts out) where
    abbrev R : ℕ → ℕ
    R = root_of parts

    none_before : (z : ℕ) → 0 < z → z < count_of r → R z ≡ z → NoneBefore g X order (link z) i
    none_before z some lz lone j lj out-j =
        let l = get_or order j 0 in
        same_part_joined g points X r tree z some lz parts cov.hung lone (g.first l) (g.second l) (firsts l) (seconds l) (cov.met j (place (g.first l)) (place (g.second l)) lj out-j (place_is g points X r tree (g.first l) (firsts l)) (place_is g points X r tree (g.second l) (seconds l)))

    -- the link above the greater of two roots is covered by a link between their parts
    module _ (l : ℕ) (within : i < length order) (here : get_or order i 0 ≡ l) (outside : T (X l) → ⊥) (z : ℕ) (some : 0 < z) where
      first_by : z < count_of r → R z ≡ z → (Spans g (without_link X (link z)) l → ⊥) → FirstRejoining g X order (link z) l
      first_by lz lone apart = record { place = i; within = within; here = here; outside = outside; rejoins = apart; earlier = none_before z some lz lone }

      pub first_rejoining : (a b : ℕ) → Ends l a b → z < count_of r → R z ≡ z → R a ≡ z → R b < z → FirstRejoining g X order (link z) l
      first_rejoining a b ends lz lone top low = first_by lz lone (λ d. two_sides g points X r tree z some lz parts cov.hung lone a b (ends_below l a b ends).0 (ends_below l a b ends).1 top low (along l a b ends (λ p. root_of (cut g points X r tree z some lz) p) (one_side g points X r tree z some lz (g.first l) (g.second l) d)))

    -- one link more is covered
    module _ (l z low : ℕ) (some : 0 < z) (lz : z < count_of r) (lone : R z ≡ z) (low-is : low ≡ R (parent_at r z)) (less : low < z) (parts' : List ℕ) (out' : List (Option ℕ)) (roots : (w : ℕ) → root_of parts' w ≡ under parts low z w) (set_is : out' ≡ set out (link z) (Some l)) (long : length out ≡ 2048) (first : FirstRejoining g X order (link z) l) where
      alike : (x y : ℕ) → R x ≡ R y → root_of parts' x ≡ root_of parts' y
      alike x y e = roots x ∙ ap (λ w. cond (eqb w z) low w) e ∙ sym (roots y)

      stays_own : (p : ℕ) → (p ≡ z → ⊥) → R p ≡ p → root_of parts' p ≡ p
      stays_own p apart own = roots p ∙ stays (root_of parts) low z p (λ q. apart (sym own ∙ q)) ∙ own

      goes_under : (p : ℕ) → p ≡ z → root_of parts' p ≡ root_of parts' (parent_at r p)
      goes_under p q =
          let up : R (parent_at r p) ≡ low = ap (λ k. R (parent_at r k)) q ∙ sym low-is in
          roots p ∙ moved (root_of parts) low z p (ap R q ∙ lone) ∙ sym (roots (parent_at r p) ∙ stays (root_of parts) low z (parent_at r p) (λ s. omega arith) ∙ up)

      hung_more : (p : ℕ) → p < count_of r → (root_of parts' p ≡ p) ⊎ (root_of parts' p ≡ root_of parts' (parent_at r p))
      hung_more p lp = elim (cov.hung p lp) [
        | inl own ↦ elim (same_or p z) [
          | inl q ↦ inr (goes_under p q)
          | inr apart ↦ inl (stays_own p apart own)
        ]
        | inr e ↦ inr (alike p (parent_at r p) e)
      ]

      out_here : (e : ℕ) → e ≡ link z → get_or out' e None ≡ Some l
      out_here e q = ap (λ o. get_or o e None) set_is ∙ ap (λ k. get_or (set out (link z) (Some l)) k None) q ∙ get_or-set_same out (link z) (Some l) None (let b = r.below z in omega arith)

      out_other : (e : ℕ) → (e ≡ link z → ⊥) → get_or out' e None ≡ get_or out e None
      out_other e apart = ap (λ o. get_or o e None) set_is ∙ get_or-set_other out (link z) e (Some l) None apart

      lone_more : (p : ℕ) → 0 < p → p < count_of r → get_or out' (link p) None ≡ None → root_of parts' p ≡ p
      lone_more p sp lp none = elim (same_or (link p) (link z)) [
        | inl q ↦ absurd (some_none (get_or out' (link p) None) l (out_here (link p) q) none)
        | inr apart ↦ stays_own p (λ q. apart (ap (link_above r) q)) (cov.lone p sp lp (sym (out_other (link p) apart) ∙ none))
      ]

      told_more : (e k : ℕ) → get_or out' e None ≡ Some k → T (X e) × FirstRejoining g X order e k
      told_more e k s = elim (same_or e (link z)) [
        | inl q ↦ (subst (λ j. T (X j)) (sym q) (tree.linked.holds z some lz), subst (λ j. FirstRejoining g X order j k) (sym q) (subst (λ j. FirstRejoining g X order (link z) j) (same_some (get_or out' e None) l k (out_here e q) s) first))
        | inr apart ↦ cov.told e k (sym (out_other e apart) ∙ s)
      ]

      pub covering_more : Covering g X order r i parts' out'
      covering_more = record {
        hung = hung_more;
        lone = lone_more;
        told = told_more;
        met = λ j a b lj out-j sa sb. alike a b (cov.met j a b lj out-j sa sb);
      }

    -- a step up from the greater root
    module _ (forest : Forest parts) (l : ℕ) (within : i < length order) (here : get_or order i 0 ≡ l) (outside : T (X l) → ⊥) (z y low : ℕ) (less-y : y < z) (low-is : low ≡ R (parent_at r z)) (less : low < z) (parts' : List ℕ) (out' : List (Option ℕ)) (roots : (w : ℕ) → root_of parts' w ≡ under parts low z w) (set_is : out' ≡ set out (link z) (Some l)) (long : length out ≡ 2048) where
      own_top : (a : ℕ) → R a ≡ z → R z ≡ z
      own_top a top = root_again parts forest a z top

      low_top : (a : ℕ) → R a ≡ z → a < count_of r → z < count_of r
      low_top a top la = let h = root_lower parts forest a (R a) (leads parts forest a) in omega arith

      pub step_up : (a b : ℕ) → Ends l a b → R a ≡ z → R b ≡ y → Covering g X order r i parts' out'
      step_up a b ends top low-y =
          let some : 0 < z = omega arith in
          let lz = low_top a top (ends_below l a b ends).0 in
          let lone = own_top a top in
          covering_more l z low some lz lone low-is less parts' out' roots set_is long (first_rejoining l within here outside z some a b ends lz lone top (subst (λ k. k < z) (sym low-y) less-y))

    -- one link of the list is done
    pub covering_next : ((a b : ℕ) → (T (X (get_or order i 0)) → ⊥) → place_of r (g.first (get_or order i 0)) ≡ Some a → place_of r (g.second (get_or order i 0)) ≡ Some b → R a ≡ R b) → Covering g X order r (i + 1) parts out
    covering_next last = record {
      hung = cov.hung;
      lone = cov.lone;
      told = cov.told;
      met = λ j a b lj out-j sa sb. elim (same_or j i) [
        | inl q ↦
            let here = ap (λ k. get_or order k 0) q in
            last a b (λ t. out-j (subst (λ k. T (X k)) (sym here) t)) (subst (λ k. place_of r (g.first k) ≡ Some a) here sa) (subst (λ k. place_of r (g.second k) ≡ Some b) here sb)
        | inr apart ↦ cov.met j a b (omega arith) out-j sa sb
      ];
    }

  -- all links of the list are done
  module _ (parts : List ℕ) (out : List (Option ℕ)) (cov : Covering g X order r (length order) parts out) where
    by_value : (e : ℕ) → T (X e) → (v : Option ℕ) → get_or out e None ≡ v → Replaced g X order e v
    by_value e t None s =
        let a = tree.all e t in
        let none = subst (λ k. get_or out k None ≡ None) (sym a.3) s in
        subst (λ k. NoneBefore g X order k (length order)) a.3 (none_before (length order) parts out cov a.0 a.1 a.2 (cov.lone a.0 a.1 a.2 none))
    by_value e t (Some l) s = (cov.told e l s).1

    pub replaced : (e : ℕ) → T (X e) → Replaced g X order e (get_or out e None)
    replaced e t = by_value e t (get_or out e None) refl

    not_told : (e : ℕ) → (T (X e) → ⊥) → (v : Option ℕ) → get_or out e None ≡ v → get_or out e None ≡ None
    not_told e no-e None s = s
    not_told e no-e (Some l) s = absurd (no-e (cov.told e l s).0)

    pub no_replacement : (e : ℕ) → (T (X e) → ⊥) → get_or out e None ≡ None
    no_replacement e no-e = not_told e no-e (get_or out e None) refl
