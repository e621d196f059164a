-- The items of chains, and what one more item does to them.
use Rattle.std.proofs.Common.{◌≡◌, ℕ, zero, suc, ◌<◌, ◌≤◌, List, [], ◌∷◌, length, map, get_or, set, replicate, Some, None, Option, sym, refl, ap, ◌∙◌, subst, arith}
use Rattle.std.proofs.lemmas.List.{length-set, map-set, get_or-set_same, get_or-set_other}
use native.Mathlib.Decide.{ℕ_discrete}
use Rattle.std.proofs.Math.ListN.{get_or-map}
use Rattle.groups.specs.Chains.{chain, items_from, Below, Falling, Chained}

module _ (nexts : List (Option ℕ)) where
  -- no item leads to none
  pub chain_none : (n : ℕ) → chain nexts n None ≡ []
  chain_none zero = refl
  chain_none (suc n) = refl

  -- where items fall, a chain is whole as soon as it may have as many items as are below its first and the first itself
  pub chain_whole : Falling nexts → (n m : ℕ) (at : Option ℕ) → Below n at → Below m at → chain nexts n at ≡ chain nexts m at
  chain_whole falling n m None a b = chain_none n ∙ sym (chain_none m)
  chain_whole falling zero m (Some item) a b = let l = a.below item refl in absurd (omega arith)
  chain_whole falling (suc n) zero (Some item) a b = let l = b.below item refl in absurd (omega arith)
  chain_whole falling (suc n) (suc m) (Some item) a b = ap (λ items. item ∷ items) (chain_whole falling n m (get_or nexts item None) (lower n (a.below item refl)) (lower m (b.below item refl))) where
    lower : (k : ℕ) → item < suc k → Below k (get_or nexts item None)
    lower k l = record { below = λ before e. let f = (falling.lower item).below before e in omega arith }

  -- the first item, and the rest
  pub items_first : Falling nexts → (item : ℕ) → item < length nexts → items_from nexts (Some item) ≡ item ∷ items_from nexts (get_or nexts item None)
  items_first falling item l = at_length (length nexts) l where
    at_length : (n : ℕ) → item < n → chain nexts n (Some item) ≡ item ∷ chain nexts n (get_or nexts item None)
    at_length zero l = absurd (omega arith)
    at_length (suc n) l = ap (λ items. item ∷ items) (chain_whole falling n (suc n) (get_or nexts item None) (lower n l) (lower (suc n) (omega arith))) where
      lower : (k : ℕ) → item < suc k → Below k (get_or nexts item None)
      lower k l = record { below = λ before e. let f = (falling.lower item).below before e in omega arith }

  -- what lies above a chain's items does not matter to it
  pub chain_same : Falling nexts → (others : List (Option ℕ)) (top : ℕ) → ((k : ℕ) → k < top → get_or others k None ≡ get_or nexts k None) → (n : ℕ) (at : Option ℕ) → Below top at → chain others n at ≡ chain nexts n at
  chain_same falling others top same zero at b = refl
  chain_same falling others top same (suc n) None b = refl
  chain_same falling others top same (suc n) (Some item) b =
      let l = b.below item refl in
      ap (λ items. item ∷ items) (ap (chain others n) (same item l) ∙ chain_same falling others top same n (get_or nexts item None) record { below = λ before e. let f = (falling.lower item).below before e in omega arith })

-- one list of chains is another where each chain is
map_same : (f g : Option ℕ → List ℕ) (top : ℕ) → ((at : Option ℕ) → Below top at → f at ≡ g at) → (heads : List (Option ℕ)) → ((key : ℕ) → Below top (get_or heads key None)) → map f heads ≡ map g heads
map_same f g top same [] within = refl
map_same f g top same (at ∷ heads) within = let first = same at (within 0) in let others = map_same f g top same heads (λ key. within (suc key)) in cc

-- one more item, in front of the others of a key
module _ (items least : ℕ) (heads nexts : List (Option ℕ)) (chained : Chained items least heads nexts) (key item : ℕ) (is_key : key < length heads) (is_item : item < length nexts) (above : least ≤ item) where
  head : Option ℕ
  head = get_or heads key None

  more : List (Option ℕ)
  more = set nexts item head

  same_below : (k : ℕ) → k < item → get_or more k None ≡ get_or nexts k None
  unfolding more head
  same_below k l = get_or-set_other nexts item k head None (λ e. clash k item e l) where
    clash : (k item : ℕ) → k ≡ item → k < item → ⊥
    clash k item e l = omega arith

  raised : (at : Option ℕ) → Below least at → Below item at
  raised at b = record { below = λ i e. let l = b.below i e in omega arith }

  more_falling : Falling more
  unfolding more head
  more_falling = record {
    lower = λ i. elim (ℕ_discrete i item) [
      | yes e ↦ subst (λ j. Below j (get_or more j None)) (sym e) (subst (Below item) (sym (get_or-set_same nexts item head None is_item)) (raised head (chained.within key)))
      | no apart ↦ subst (Below i) (sym (get_or-set_other nexts item i head None apart)) (chained.falling.lower i)
    ];
  }

  -- its key has it in front, and the other keys what they had
  pub lists_more : map (items_from (set nexts item (get_or heads key None))) (set heads key (Some item)) ≡ set (map (items_from nexts) heads) key (item ∷ get_or (map (items_from nexts) heads) key [])
  unfolding more head
  lists_more = map-set (items_from more) heads key (Some item) ∙ (let a = others_same in let b = own in cc) where
    long : length more ≡ length nexts
    long = length-set nexts item head

    same_items : (at : Option ℕ) → Below least at → items_from more at ≡ items_from nexts at
    same_items at b = ap (λ n. chain more n at) long ∙ chain_same nexts chained.falling more item same_below (length nexts) at (raised at b)

    others_same : map (items_from more) heads ≡ map (items_from nexts) heads
    others_same = map_same (items_from more) (items_from nexts) least same_items heads chained.within

    own : items_from more (Some item) ≡ item ∷ get_or (map (items_from nexts) heads) key []
    own =
        items_first more more_falling item (subst (λ n. item < n) (sym long) is_item)
        ∙ ap (λ at. item ∷ items_from more at) (get_or-set_same nexts item head None is_item)
        ∙ ap (λ items. item ∷ items) (same_items head (chained.within key) ∙ sym (get_or-map (items_from nexts) heads key None) ∙ ap (get_or (map (items_from nexts) heads) key) (chain_none nexts (length nexts)))

-- no items before any is put
pub no_lists : (keys items : ℕ) → map (items_from (replicate items None)) (replicate keys None) ≡ replicate keys []
no_lists zero items = refl
no_lists (suc keys) items = let first = chain_none (replicate items None) (length (replicate {A = Option ℕ} items None)) in let others = no_lists keys items in cc

-- the items of a key
pub group_in_memory : (nexts heads : List (Option ℕ)) (key : ℕ) → get_or (map (items_from nexts) heads) key [] ≡ items_from nexts (get_or heads key None)
group_in_memory nexts heads key = ap (get_or (map (items_from nexts) heads) key) (sym (chain_none nexts (length nexts))) ∙ get_or-map (items_from nexts) heads key None
