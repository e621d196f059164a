use Rattle.std.proofs.Common.{◌≡◌, ℕ, ◌<◌, set, Some, sym, refl, ap, ◌∙◌, subst, inl, inr, arith}
use Rattle.spanning.specs.Roots.{root_of}
use Rattle.spanning.proofs.Climbs.{leads, root_lower}
use Rattle.spanning.proofs.Labels.{moved, stays}
use Rattle.forest.specs.Readings.{links_of}
use Rattle.forest.specs.Rooted.{count_of, place_of, parent_at, link_above, RootedTree}
use Rattle.forest.proofs.RootWalk.{number_of}
use Rattle.forest.proofs.ReplacCover.{root_again, same_some, covering_same, covering_next, step_up}
use Rattle.forest.proofs.replacing.Cover.cover.Goals as goal

pub loop-x-init : goal.loop-x-init
loop-x-init c =
    let parts = c.find-y.new.self in
    let top-x : root_of parts.parents c.in-Some.first ≡ c.find-x.result = c.find-y.ensures.same c.in-Some.first ∙ c.find-x.ensures.same c.in-Some.first ∙ sym c.find-x.ensures.value in
    let top-y : root_of parts.parents c.in-Some-place.second ≡ c.find-y.result = c.find-y.ensures.same c.in-Some-place.second ∙ sym c.find-y.ensures.value in
    let r = c.args.self.now.rooted in
    let first-is : place_of r ((links_of c.args.self.now.network.now).first c.args.link) ≡ Some c.in-Some.first = cc in
    let second-is : place_of r ((links_of c.args.self.now.network.now).second c.args.link) ≡ Some c.in-Some-place.second = cc in
    let first-in = ((r.agree _ c.in-Some.first).0 first-is).0 in
    let second-in = ((r.agree _ c.in-Some-place.second).0 second-is).0 in
    let lx = root_lower parts.parents parts.lower c.in-Some.first (root_of parts.parents c.in-Some.first) (leads parts.parents parts.lower c.in-Some.first) in
    let ly = root_lower parts.parents parts.lower c.in-Some-place.second (root_of parts.parents c.in-Some-place.second) (leads parts.parents parts.lower c.in-Some-place.second) in
    record { network = refl; rooted = refl; x_within = omega arith; y_within = omega arith; x_lowest = top-x; y_lowest = top-y; covered = λ X ranked i tree within here outside cov. cov }

pub climb-x-requires-clause-lowest : goal.climb-x-requires-clause-lowest
climb-x-requires-clause-lowest c = root_again c.loop-x.self.parts.parents c.loop-x.self.parts.lower c.in-Some.first c.loop-x.x c.loop-x.invariant.x_lowest

pub climb-y-requires-clause-lowest : goal.climb-y-requires-clause-lowest
climb-y-requires-clause-lowest c = root_again c.loop-x.self.parts.parents c.loop-x.self.parts.lower c.in-Some-place.second c.loop-x.y c.loop-x.invariant.y_lowest

pub loop-x-preserved-then-y-x : goal.loop-x-preserved-then-y-x
loop-x-preserved-then-y-x c =
    let n = c.args.self.now.network.now in
    let g = links_of n in
    let r = c.args.self.now.rooted in
    let was = c.loop-x.self in
    let now = c.climb-x.new.self in
    let inv = c.loop-x.invariant in
    let told = c.climb-x.ensures in
    let high = c.loop-x.x in
    let low = c.climb-x.result in
    let rest = c.loop-x.y in
    let less : rest < high = c.if-y-x.true in
    let down : low < high = told.lower in
    let within : high < count_of r = inv.x_within in
    let up : low ≡ root_of was.parts.parents (parent_at r high) = told.value ∙ ap (λ t. root_of was.parts.parents (parent_at t high)) inv.rooted in
    let set_is : now.covers ≡ set was.covers (link_above r high) (Some c.args.link) = told.told ∙ ap (λ t. set was.covers (link_above t high) (Some c.args.link)) inv.rooted in
    let first-is : place_of r (g.first c.args.link) ≡ Some c.in-Some.first = cc in
    let second-is : place_of r (g.second c.args.link) ≡ Some c.in-Some-place.second = cc in
    record {
      network = told.network ∙ inv.network;
      rooted = told.rooted ∙ inv.rooted;
      x_within = omega arith;
      y_within = inv.y_within;
      x_lowest = told.after c.in-Some.first ∙ moved (root_of was.parts.parents) low high c.in-Some.first inv.x_lowest;
      y_lowest = told.after c.in-Some-place.second ∙ stays (root_of was.parts.parents) low high c.in-Some-place.second (λ q. omega (arith, inv.y_lowest)) ∙ inv.y_lowest;
      covered = λ X ranked i tree is_in here outside cov.
          step_up g n.points X ranked r tree n.first_below n.second_below i was.parts.parents was.covers (inv.covered X ranked i tree is_in here outside cov) was.parts.lower c.args.link is_in here outside high rest low less up down now.parts.parents now.covers told.after set_is was.long c.in-Some.first c.in-Some-place.second (inl (sym (number_of r (g.first c.args.link) c.in-Some.first first-is), sym (number_of r (g.second c.args.link) c.in-Some-place.second second-is))) inv.x_lowest inv.y_lowest;
    }

pub loop-x-preserved : goal.loop-x-preserved
loop-x-preserved c =
    let n = c.args.self.now.network.now in
    let g = links_of n in
    let r = c.args.self.now.rooted in
    let was = c.loop-x.self in
    let now = c.climb-y.new.self in
    let inv = c.loop-x.invariant in
    let told = c.climb-y.ensures in
    let high = c.loop-x.y in
    let low = c.climb-y.result in
    let rest = c.loop-x.x in
    let less : rest < high = (let apart = c.loop-x-test.true in let most = c.if-y-x.false in omega arith) in
    let down : low < high = told.lower in
    let within : high < count_of r = inv.y_within in
    let up : low ≡ root_of was.parts.parents (parent_at r high) = told.value ∙ ap (λ t. root_of was.parts.parents (parent_at t high)) inv.rooted in
    let set_is : now.covers ≡ set was.covers (link_above r high) (Some c.args.link) = told.told ∙ ap (λ t. set was.covers (link_above t high) (Some c.args.link)) inv.rooted in
    let first-is : place_of r (g.first c.args.link) ≡ Some c.in-Some.first = cc in
    let second-is : place_of r (g.second c.args.link) ≡ Some c.in-Some-place.second = cc in
    record {
      network = told.network ∙ inv.network;
      rooted = told.rooted ∙ inv.rooted;
      y_within = omega arith;
      x_within = inv.x_within;
      y_lowest = told.after c.in-Some-place.second ∙ moved (root_of was.parts.parents) low high c.in-Some-place.second inv.y_lowest;
      x_lowest = told.after c.in-Some.first ∙ stays (root_of was.parts.parents) low high c.in-Some.first (λ q. omega (arith, inv.x_lowest)) ∙ inv.x_lowest;
      covered = λ X ranked i tree is_in here outside cov.
          step_up g n.points X ranked r tree n.first_below n.second_below i was.parts.parents was.covers (inv.covered X ranked i tree is_in here outside cov) was.parts.lower c.args.link is_in here outside high rest low less up down now.parts.parents now.covers told.after set_is was.long c.in-Some-place.second c.in-Some.first (inr (sym (number_of r (g.second c.args.link) c.in-Some-place.second second-is), sym (number_of r (g.first c.args.link) c.in-Some.first first-is))) inv.y_lowest inv.x_lowest;
    }

pub returns-clause-covered : goal.returns-clause-covered
returns-clause-covered c X ranked i is_in here outside before after =
    let n = c.args.self.now.network.now in
    let g = links_of n in
    let r = c.args.self.now.rooted in
    let first = c.find-y.new.self.parents in
    let parts = c.loop-x.self.parts.parents in
    let inv = c.loop-x.invariant in
    let equal : c.loop-x.x ≡ c.loop-x.y = c.loop-x-test.false in
    let first-is : place_of r (g.first c.args.link) ≡ Some c.in-Some.first = cc in
    let second-is : place_of r (g.second c.args.link) ≡ Some c.in-Some-place.second = cc in
    let tree : RootedTree g n.points X r = rw (inv.network, inv.rooted) at after in
    let start = covering_same g X ranked r i c.args.self.now.parts.parents first c.args.self.now.covers (λ z. c.find-y.ensures.same z ∙ c.find-x.ensures.same z) (before tree) in
    rw (inv.network, inv.rooted)
    (covering_next g n.points X ranked r tree n.first_below n.second_below i parts c.loop-x.self.covers (inv.covered X ranked i tree is_in here outside start)
    (λ a b out sa sb.
    let qa : a ≡ c.in-Some.first = same_some (place_of r (g.first c.args.link)) a c.in-Some.first (subst (λ k. place_of r (g.first k) ≡ Some a) here sa) first-is in
    let qb : b ≡ c.in-Some-place.second = same_some (place_of r (g.second c.args.link)) b c.in-Some-place.second (subst (λ k. place_of r (g.second k) ≡ Some b) here sb) second-is in
    ap (root_of parts) qa ∙ inv.x_lowest ∙ equal ∙ sym inv.y_lowest ∙ sym (ap (root_of parts) qb)))

-- in a rooted tree each point has a place
pub returns-in_default-clause-covered : goal.returns-in_default-clause-covered
returns-in_default-clause-covered c X ranked i is_in here outside before tree =
    let n = c.args.self.now.network.now in
    let has = tree.placed ((links_of n).first c.args.link) (n.first_below c.args.link) in
    let is : place_of c.args.self.now.rooted ((links_of n).first c.args.link) ≡ Some has.0 = has.1 in
    let none = c.in_default.is in
    absurd (let e : ◌≡◌ {A = ℕ} 0 1 = cc in omega arith)

pub returns-in_default-place-clause-covered : goal.returns-in_default-place-clause-covered
returns-in_default-place-clause-covered c X ranked i is_in here outside before tree =
    let n = c.args.self.now.network.now in
    let has = tree.placed ((links_of n).second c.args.link) (n.second_below c.args.link) in
    let is : place_of c.args.self.now.rooted ((links_of n).second c.args.link) ≡ Some has.0 = has.1 in
    let none = c.in_default-place.is in
    absurd (let e : ◌≡◌ {A = ℕ} 0 1 = cc in omega arith)
