use Rattle.std.proofs.Common.{◌≡◌, ℕ, ◌<◌, sym, ap, ◌∙◌, subst, arith}
use Rattle.spanning.specs.Roots.{root_of, under}
use Rattle.spanning.proofs.Climbs.{leads, root_lower}
use Rattle.spanning.proofs.Labels.{moved}
use Rattle.forest.specs.Places.{parent_of}
use Rattle.forest.specs.Rooted.{parent_at}
use Rattle.forest.proofs.ReplacCover.{lower_under}
use Rattle.forest.proofs.replacing.Cover.climb.Goals as goal

-- the parent's part is lower, and the place goes under its root
less : (c : goal.After-self-1) → root_of c.args.self.now.parts.parents (parent_at c.args.self.now.rooted c.args.place) < c.args.place
less c =
    let parts = c.args.self.now.parts in
    let up = parent_at c.args.self.now.rooted c.args.place in
    let below = c.args.self.now.rooted.lower c.args.place in
    let some = c.requires.not_root in
    let deep = root_lower parts.parents parts.lower up (root_of parts.parents up) (leads parts.parents parts.lower up) in
    omega arith

joined : (c : goal.After-self-1) (w : ℕ) → root_of c.join.new.self.parents w ≡ under c.args.self.now.parts.parents (root_of c.args.self.now.parts.parents (parent_at c.args.self.now.rooted c.args.place)) c.args.place w
joined c = lower_under c.args.self.now.parts.parents c.join.new.self.parents c.args.place (parent_at c.args.self.now.rooted c.args.place) c.unwrap-above.result.parent (sym (ap parent_of (sym c.above.ensures ∙ c.unwrap-above.ensures))) c.requires.lowest (less c) c.join.ensures.after

pub returns-clause-value : goal.returns-clause-value
returns-clause-value c =
    let parts = c.args.self.now.parts.parents in
    let z = c.args.place in
    c.find.ensures.value ∙ joined c z ∙ moved (root_of parts) (root_of parts (parent_at c.args.self.now.rooted z)) z z c.requires.lowest

pub returns-clause-lower : goal.returns-clause-lower
returns-clause-lower c = subst (λ v. v < c.args.place) (sym (returns-clause-value c)) (less c)

pub returns-clause-after : goal.returns-clause-after
returns-clause-after c w = c.find.ensures.same w ∙ joined c w ∙ ap (λ v. under c.args.self.now.parts.parents v c.args.place w) (sym (returns-clause-value c))
