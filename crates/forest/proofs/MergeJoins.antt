-- Roots tell which points the links joined so far join.
use Rattle.std.proofs.Common.{◌≡◌, ℕ, ◌<◌, Bool, true, false, ◌||◌, T, eqb, ◌⊎◌, List, [], ◌∷◌, ◌++◌, length, take, sym, refl, ap, ◌∙◌, subst, inl, inr, arith}
use Rattle.forest.specs.declared.merges.Merges.{Merges}
use Rattle.forest.specs.Merges.{among, hang_of, joins_of, root_after, Remembers}
use Rattle.spanning.specs.Joined.{Graph, Joined}
use Rattle.spanning.specs.Joined.Joined.{same, forth, back}
use Rattle.spanning.specs.Sets.{with_link}
use Rattle.spanning.proofs.Chains.{join, turn, wider, split, Split, spans_own}
use Rattle.spanning.proofs.Chains.Split.{around, across, against}
use Rattle.spanning.proofs.Subsets.{same_or, with_old, with_new}

-- the links of a list, and of the list with one more
pub among_push : (js : List ℕ) (l k : ℕ) → among (js ++ l ∷ []) k ≡ with_link (among js) l k
among_push [] l k = elim (eqb k l) as (λ b. (b || false) ≡ b) [ true ↦ refl | false ↦ refl ]
among_push (j ∷ js) l k =
    ap (λ b. eqb k j || b) (among_push js l k)
    ∙ (elim (eqb k j) as (λ b. (b || (among js k || eqb k l)) ≡ ((b || among js k) || eqb k l)) [ true ↦ refl | false ↦ refl ])

-- one root or two: roots f tell what S joins, and one root, down, is moved to the other, up
module _ (g : Graph) (S : ℕ → Bool) (e n : ℕ) (f : ℕ → ℕ) (la : g.first e < n) (lb : g.second e < n)
    (one : (x y : ℕ) → x < n → y < n → f x ≡ f y → Joined g S x y) (met : (x y : ℕ) → x < n → y < n → Joined g S x y → f x ≡ f y)
    (down up : ℕ) (order : ((f (g.first e) ≡ down) × (f (g.second e) ≡ up)) ⊎ ((f (g.first e) ≡ up) × (f (g.second e) ≡ down)))
    (f' : ℕ → ℕ) (moved : (x : ℕ) → x < n → f x ≡ down → f' x ≡ up) (kept : (x : ℕ) → x < n → (f x ≡ down → ⊥) → f' x ≡ f x) where
  abbrev a : ℕ
  a = g.first e

  abbrev b : ℕ
  b = g.second e

  abbrev S' : ℕ → Bool
  S' = with_link S e

  old_chain : (x y : ℕ) → x < n → y < n → f x ≡ f y → Joined g S' x y
  old_chain x y lx ly q = wider g S S' (with_old S e) x y (one x y lx ly q)

  a_to_b : Joined g S' a b
  a_to_b = spans_own g S' e (with_new S e)

  crossing : (x y : ℕ) → x < n → y < n → f x ≡ down → f y ≡ up → Joined g S' x y
  crossing x y lx ly p q = elim order [
    | inl o ↦ join g S' x a y (old_chain x a lx la (p ∙ sym o.0)) (join g S' a b y a_to_b (old_chain b y lb ly (o.1 ∙ sym q)))
    | inr o ↦ join g S' x b y (old_chain x b lx lb (p ∙ sym o.1)) (join g S' b a y (turn g S' a b a_to_b) (old_chain a y la ly (o.0 ∙ sym q)))
  ]

  alike : (x y : ℕ) → x < n → y < n → f x ≡ f y → f' x ≡ f' y
  alike x y lx ly q = elim (same_or (f x) down) [
    | inl h ↦ moved x lx h ∙ sym (moved y ly (sym q ∙ h))
    | inr h ↦ kept x lx h ∙ q ∙ sym (kept y ly (λ k. h (q ∙ k)))
  ]

  -- what has the root up has it still
  upper : (x : ℕ) → x < n → f x ≡ up → f' x ≡ up
  upper x lx q = elim (same_or (f x) down) [
    | inl h ↦ moved x lx h
    | inr h ↦ kept x lx h ∙ q
  ]

  ends_meet : f' a ≡ f' b
  ends_meet = elim order [
    | inl o ↦ moved a la o.0 ∙ sym (upper b lb o.1)
    | inr o ↦ upper a la o.0 ∙ sym (moved b lb o.1)
  ]

  pub one_after : (x y : ℕ) → x < n → y < n → f' x ≡ f' y → Joined g S' x y
  one_after x y lx ly q = elim (same_or (f x) down) [
    | inl hx ↦ elim (same_or (f y) down) [
      | inl hy ↦ old_chain x y lx ly (hx ∙ sym hy)
      | inr ny ↦ crossing x y lx ly hx (sym (kept y ly ny) ∙ sym q ∙ moved x lx hx)
    ]
    | inr nx ↦ elim (same_or (f y) down) [
      | inl hy ↦ turn g S' y x (crossing y x ly lx hy (sym (kept x lx nx) ∙ q ∙ moved y ly hy))
      | inr ny ↦ old_chain x y lx ly (sym (kept x lx nx) ∙ q ∙ kept y ly ny)
    ]
  ]

  by_split : (x y : ℕ) → x < n → y < n → Split g S e x y → f' x ≡ f' y
  by_split x y lx ly (around d) = alike x y lx ly (met x y lx ly d)
  by_split x y lx ly (across p q) = alike x a lx la (met x a lx la p) ∙ ends_meet ∙ alike b y lb ly (met b y lb ly q)
  by_split x y lx ly (against p q) = alike x b lx lb (met x b lx lb p) ∙ sym ends_meet ∙ alike a y la ly (met a y la ly q)

  pub met_after : (x y : ℕ) → x < n → y < n → Joined g S' x y → f' x ≡ f' y
  met_after x y lx ly d = by_split x y lx ly (split g S e x y d)

-- the links of one list join what those of another with the same links do
pub along : (g : Graph) (js ks : List ℕ) → js ≡ ks → (x y : ℕ) → Joined g (among js) x y → Joined g (among ks) x y
along g js ks q x y d = subst (λ l. Joined g (among l) x y) q d

pub pushed : (g : Graph) (js : List ℕ) (l x y : ℕ) → Joined g (with_link (among js) l) x y → Joined g (among (js ++ l ∷ [])) x y
pushed g js l = wider g (with_link (among js) l) (among (js ++ l ∷ [])) (λ k t. subst T (sym (among_push js l k)) t)

pub unpushed : (g : Graph) (js : List ℕ) (l x y : ℕ) → Joined g (among (js ++ l ∷ [])) x y → Joined g (with_link (among js) l) x y
unpushed g js l = wider g (among (js ++ l ∷ [])) (with_link (among js) l) (λ k t. subst T (among_push js l k) t)

-- no link joins only a point to itself
none_joined : (g : Graph) (x y : ℕ) → Joined g (among []) x y → x ≡ y
none_joined g x y (same w) = refl
none_joined g x y (forth w e t d) = absurd t
none_joined g x y (back w e t d) = absurd t

-- before the first join
pub remembers_none : (m : Merges) (g : Graph) → joins_of m ≡ [] → Remembers m g
remembers_none m g none = record {
  ends = λ k t. absurd (subst (λ js. T (among js k)) none t);
  one_root = λ t x y l lx ly q. (let z : t ≡ 0 = omega (arith, ap length none) in let e : x ≡ y = subst (λ s. root_after (hang_of m) s x ≡ root_after (hang_of m) s y) z q in subst (λ y'. Joined g (among (take t (joins_of m))) x y') e (same x));
  roots_met = λ t x y l lx ly d. ap (root_after (hang_of m) t) (none_joined g x y (along g (take t (joins_of m)) [] (let z : t ≡ 0 = omega (arith, ap length none) in ap (λ s. take s (joins_of m)) z) x y d));
}
