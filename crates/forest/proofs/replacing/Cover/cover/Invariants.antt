use Rattle.std.proofs.Common.{◌≡◌, ℕ, ◌+◌, ◌<◌, Bool, T, List, length, get_or}
use Rattle.spanning.specs.Roots.{root_of}
use Rattle.forest.specs.Readings.{links_of}
use Rattle.forest.specs.Rooted.{count_of, RootedTree, Covering}
use Rattle.forest.proofs.replacing.Cover.cover.Given as goal

-- x and y are the lowest of the parts of the places of the link's ends
abbrev pub invariant-loop-x : goal.invariant-loop-x
invariant-loop-x l = record {
  network : l.self.network ≡ l.initial.self.network;
  rooted : l.self.rooted ≡ l.initial.self.rooted;
  x_within : l.x < count_of l.initial.self.rooted;
  y_within : l.y < count_of l.initial.self.rooted;
  x_lowest : root_of l.self.parts.parents l.first ≡ l.x;
  y_lowest : root_of l.self.parts.parents l.second ≡ l.y;
  covered : (X : ℕ → Bool) (ranked : List ℕ) (i : ℕ) → RootedTree (links_of l.initial.self.network.now) l.initial.self.network.now.points X l.initial.self.rooted → i < length ranked → get_or ranked i 0 ≡ l.link → (T (X l.link) → ⊥) → Covering (links_of l.initial.self.network.now) X ranked l.initial.self.rooted i l.initial.self.parts.parents l.initial.self.covers → Covering (links_of l.initial.self.network.now) X ranked l.initial.self.rooted i l.self.parts.parents l.self.covers;
}

abbrev pub decreases-loop-x : goal.decreases-loop-x
decreases-loop-x l = l.x + l.y
