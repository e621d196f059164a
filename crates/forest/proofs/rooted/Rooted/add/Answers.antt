use Rattle.std.proofs.Common.{ℕ, ◌-◌, ◌<◌, ◌≤◌, length, get_or, set, Some, None, IsSome, ◌≡◌, ◌∙◌, sym, refl, subst, arith}
use Rattle.std.proofs.lemmas.List.{length-set}
use Rattle.forest.specs.declared.rooted.Place.{Place}
use Rattle.forest.specs.Places.{Agree, above_in, parent_in, link_in}
use Rattle.forest.proofs.RootPlaces.{agree_more, still, hung_more, lower_more, below_more}
use Rattle.forest.proofs.RootWalk.{room}
use Rattle.forest.proofs.rooted.Rooted.add.Goals as goal

pub push-requires : goal.push-requires
push-requires c = (omega arith, room c.args.self.now c.args.point c.requires.new c.requires.within)

pub invariant_of-self : goal.invariant_of-self
invariant_of-self c =
    let r = c.args.self.now in
    let x = c.args.point in
    let y : Place = record { point = x; above = Some c.args.above } in
    let n = sym c.len.ensures.value in
    let items = sym c.push.ensures.items in
    let within : x < length r.places = omega (arith, c.requires.within, r.long) in
    let up = c.requires.above in
    record {
      long = length-set r.places x (Some c.len.result) ∙ r.long;
      root = subst (λ k. get_or (set r.places x (Some k)) 0 None ≡ Some 0) n (still r.order.items y r.places r.agree within c.requires.new 0 0 r.root);
      agree = subst (λ k. Agree (set r.places x (Some k)) c.push.new.self.items) n (subst (Agree (set r.places x (Some (length r.order.items)))) items (agree_more r.order.items y r.places r.agree within c.requires.new));
      hung = subst (λ o. (p : ℕ) → 0 < p → p < length o → IsSome (above_in o p)) items (hung_more r.order.items y r.hung refl);
      lower = subst (λ o. (p : ℕ) → parent_in o p ≤ p - 1) items (lower_more r.order.items y r.lower (omega arith));
      below = subst (λ o. (p : ℕ) → link_in o p < 2048) items (below_more r.order.items y r.below c.requires.link);
    }
