-- What putting an item does to the items of each key.
use Rattle.std.proofs.Common.{◌≡◌, ℕ, zero, suc, ◌+◌, ◌<◌, ◌≤◌, Bool, true, false, cond, T, ◌⊎◌, List, [], ◌∷◌, length, map, get_or, set, Some, None, Option, Contains, sym, refl, ap, ◌∙◌, subst, inl, inr, add-one, arith, rules, tests}
use native.Mathlib.Decide.{ℕ_discrete, dec_lt}
use Rattle.std.proofs.lemmas.List.{length-set, length-replicate, get_or-replicate, get_or-set_same, get_or-set_other}
use Rattle.std.proofs.lemmas.List.Elements.{Contains-append_right, Contains-append_cases}
use Rattle.groups.specs.Groups.{Grouping, no_items, group, with_item, put_under, those_below, GroupedTo}
use Rattle.groups.specs.Chains.{items_from, Chained}
use Rattle.groups.proofs.ChainItems.{lists_more}

-- an item that fits is put
pub put_fits : (keys items key item : ℕ) (g : Grouping) → key < keys → item < items → g.least ≤ item → put_under keys items g key item ≡ with_item g key item
put_fits keys items key item g is_key is_item above = search (rules, tests)

-- no item is put under a key that is not there
pub put_far : (keys items key item : ℕ) (g : Grouping) → keys ≤ key → put_under keys items g key item ≡ g
put_far keys items key item g far = search (rules, tests)

-- in memory it stands in front of its key's others
pub put_in_memory : (keys items least : ℕ) (heads nexts : List (Option ℕ)) → Chained items least heads nexts → length heads ≡ keys → length nexts ≡ items → (key item : ℕ) → key < keys → item < items → least ≤ item → ◌≡◌ {A = Grouping} record { lists = map (items_from (set nexts item (get_or heads key None))) (set heads key (Some item)); least = item + 1 } (put_under keys items record { lists = map (items_from nexts) heads; least = least } key item)
put_in_memory keys items least heads nexts chained long_heads long_nexts key item is_key is_item above =
    let lists = lists_more items least heads nexts chained key item (omega arith) (omega arith) above in
    ap (λ (l : List (List ℕ)). record { lists = l; least = item + 1 }) lists ∙ sym (put_fits keys items key item record { lists = map (items_from nexts) heads; least = least } is_key is_item above)

true_or : (b : Bool) → T b ⊎ (T b → ⊥)
true_or true = inl tt
true_or false = inr (λ t. t)

chosen : {A : Type 0} (b : Bool) (x y : A) → T b → cond b x y ≡ x
chosen true x y t = refl
chosen false x y t = absurd t

not_chosen : {A : Type 0} (b : Bool) (x y : A) → (T b → ⊥) → cond b x y ≡ y
not_chosen true x y out = absurd (out tt)
not_chosen false x y out = refl

-- the numbers that pass
module _ (P : ℕ → Bool) where
  pub those_new : (n : ℕ) → T (P n) → those_below P (suc n) ≡ n ∷ those_below P n
  unfolding those_below
  those_new n t = chosen (P n) (n ∷ those_below P n) (those_below P n) t

  pub those_old : (n : ℕ) → (T (P n) → ⊥) → those_below P (suc n) ≡ those_below P n
  unfolding those_below
  those_old n out = not_chosen (P n) (n ∷ those_below P n) (those_below P n) out

  pub those_have : (n k : ℕ) → k < n → T (P k) → Contains (those_below P n) k
  unfolding those_below
  those_have zero k l t = absurd (omega arith)
  those_have (suc n) k l t = elim (true_or (P n)) [
    | inl new ↦ subst (λ xs. Contains xs k) (sym (those_new n new)) (elim (ℕ_discrete k n) [
      | yes e ↦ subst (λ j. Contains (j ∷ those_below P n) k) e (0, omega arith, refl)
      | no apart ↦ Contains-append_right (n ∷ []) (those_below P n) k (those_have n k (less k n l apart) t)
    ])
    | inr old ↦ subst (λ xs. Contains xs k) (sym (those_old n old)) (those_have n k (less k n l (λ e. old (subst (λ j. T (P j)) e t))) t)
  ] where
    less : (k n : ℕ) → k < suc n → (k ≡ n → ⊥) → k < n
    less k n l apart = omega arith

  pub those_are : (n k : ℕ) → Contains (those_below P n) k → (k < n) × T (P k)
  unfolding those_below
  those_are zero k c = let l = c.1 in absurd (omega arith)
  those_are (suc n) k c = elim (true_or (P n)) [
    | inl new ↦ elim (Contains-append_cases (n ∷ []) (those_below P n) k (subst (λ xs. Contains xs k) (those_new n new) c)) [
      | inl first ↦ (let e = sole n k first in omega arith, subst (λ j. T (P j)) (sole n k first) new)
      | inr rest ↦ later (those_are n k rest)
    ]
    | inr old ↦ later (those_are n k (subst (λ xs. Contains xs k) (those_old n old) c))
  ] where
    later : (k < n) × T (P k) → (k < suc n) × T (P k)
    later h = (let l = h.0 in omega arith, h.1)

    sole : (n k : ℕ) → Contains (n ∷ []) k → n ≡ k
    sole n k c = at c.0 c.1 c.2 where
      at : (i : ℕ) → i < 1 → get_or (n ∷ []) i k ≡ k → n ≡ k
      at zero l e = e
      at (suc i) l e = absurd (omega arith)

-- items put in rising order
module _ (keys items : ℕ) (under : ℕ → ℕ → Bool) where
  pub grouped_none : GroupedTo keys under 0 (no_items keys)
  unfolding those_below
  grouped_none = record { each_key = length-replicate keys []; rising = omega arith; items = λ key is_key. get_or-replicate keys key [] [] is_key }

  -- the next item under no key
  pub grouped_past : (n : ℕ) (g : Grouping) → ((key : ℕ) → key < keys → T (under key n) → ⊥) → GroupedTo keys under n g → GroupedTo keys under (n + 1) g
  grouped_past n g out old = record {
    each_key = old.each_key;
    rising = (let r = old.rising in omega arith);
    items = λ key is_key. old.items key is_key ∙ sym (those_old (under key) n (out key is_key)) ∙ ap (those_below (under key)) (sym (add-one n));
  }

  -- the next item put under its key
  pub grouped_put : (n : ℕ) (g : Grouping) (key : ℕ) → n < items → T (under key n) → ((k : ℕ) → T (under k n) → k ≡ key) → GroupedTo keys under n g → GroupedTo keys under (n + 1) (put_under keys items g key n)
  grouped_put n g key is_item own sole old = elim (dec_lt key keys) [
    | yes is_key ↦ subst (GroupedTo keys under (n + 1)) (sym (put_fits keys items key n g is_key is_item old.rising)) record {
      each_key = length-set g.lists key (n ∷ group g key) ∙ old.each_key;
      rising = omega arith;
      items = λ k k_is. elim (ℕ_discrete k key) [
        | yes e ↦ subst (λ j. group (with_item g key n) j ≡ those_below (under j) (n + 1)) (sym e) (get_or-set_same g.lists key (n ∷ group g key) [] (omega (arith, old.each_key)) ∙ ap (λ xs. n ∷ xs) (old.items key is_key) ∙ sym (those_new (under key) n own) ∙ ap (those_below (under key)) (sym (add-one n)))
        | no apart ↦ get_or-set_other g.lists key k (n ∷ group g key) [] apart ∙ old.items k k_is ∙ sym (those_old (under k) n (λ t. apart (sole k t))) ∙ ap (those_below (under k)) (sym (add-one n))
      ];
    }
    | no far ↦ subst (GroupedTo keys under (n + 1)) (sym (put_far keys items key n g (omega arith))) (grouped_past n g (λ k k_is t. far (subst (λ j. j < keys) (sole k t) k_is)) old)
  ]
