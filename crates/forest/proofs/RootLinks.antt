-- The links of a tree, grouped by one of their ends.
use Rattle.std.proofs.Common.{◌≡◌, ℕ, ◌+◌, ◌<◌, Bool, T, ◌==◌, [], length, Contains, ◌↔◌, sym, ap, subst, arith, eqb→eq}
use native.Mathlib.Decide.{dec_lt}
use lib.Dec.{eqb_refl}
use Rattle.std.proofs.lemmas.List.{get_or_past}
use Rattle.spanning.specs.Joined.{Graph}
use Rattle.spanning.proofs.Subsets.{and_both, and_left, and_right}
use Rattle.groups.specs.Groups.{Grouping, GroupedTo, group, put_under}
use Rattle.groups.proofs.Putting.{those_have, those_are, grouped_past, grouped_put}
use Rattle.forest.specs.declared.rooted.links_by_end.ends.End.{End}
use Rattle.forest.specs.LinkEnds.{end_of, with_end}

module _ (g : Graph) (X : ℕ → Bool) (end : End) where
  pub with_it : (e : ℕ) → T (X e) → T (with_end g X end (end_of g end e) e)
  with_it e own = and_both (X e) (end_of g end e == end_of g end e) own (eqb_refl (end_of g end e))

  pub own_link : (x e : ℕ) → T (with_end g X end x e) → T (X e)
  own_link x e t = and_left (X e) (end_of g end e == x) t

  pub own_end : (x e : ℕ) → T (with_end g X end x e) → end_of g end e ≡ x
  own_end x e t = eqb→eq (end_of g end e) x (and_right (X e) (end_of g end e == x) t)

  module _ (n : ℕ) (within : n < 2048) (groups : Grouping) (old : GroupedTo 1024 (with_end g X end) n groups) where
    pub grouped_held : T (X n) → GroupedTo 1024 (with_end g X end) (n + 1) (put_under 1024 2048 groups (end_of g end n) n)
    grouped_held own = grouped_put 1024 2048 (with_end g X end) n groups (end_of g end n) within (with_it n own) (λ k t. sym (own_end k n t)) old

    pub grouped_left : (T (X n) → ⊥) → GroupedTo 1024 (with_end g X end) (n + 1) groups
    grouped_left out = grouped_past 1024 2048 (with_end g X end) n groups (λ k l t. out (own_link k n t)) old

  -- past the points there is no end, and no key
  pub grouped_at : (groups : Grouping) → GroupedTo 1024 (with_end g X end) 2048 groups → ((e : ℕ) → T (X e) → e < 2048) → ((e : ℕ) → end_of g end e < 1024) → (x e : ℕ) → Contains (group groups x) e ↔ T (with_end g X end x e)
  grouped_at groups all few ends x e = elim (dec_lt x 1024) [
    | yes l ↦ (
      (λ c. (those_are (with_end g X end x) 2048 e (subst (λ xs. Contains xs e) (all.items x l) c)).1),
      (λ t. subst (λ xs. Contains xs e) (sym (all.items x l)) (those_have (with_end g X end x) 2048 e (few e (own_link x e t)) t)),
    )
    | no past ↦
        let keys = all.each_key in
        let none : group groups x ≡ [] = get_or_past groups.lists x [] (omega arith) in (
          (λ c. absurd (let l : c.0 < length (group groups x) = c.1 in let z = ap length none in omega arith)),
          (λ t. absurd (let q = own_end x e t in let l = ends e in omega arith)),
        )
  ]
