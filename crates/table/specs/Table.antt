-- What a link table stands for, and when that is lawful.
use Rattle.std.specs.Prelude.{◌≡◌, ℕ, ◌+◌, ◌<◌, ◌≤◌, T, List, length, Some}
use Rattle.std.specs.List.{slice_get}
use Rattle.price.specs.Kind.{Operations, TotalOf}
use Rattle.table.specs.declared.links.Link.{Link}

-- a point count, a list of links numbered from 0, and a carried total, which counts towards the cost of every tree
pub record Table (K : Type 0) : Type 0 where
  pub points : ℕ
  pub links : List (Link K)
  pub carried : K

-- the most points, and the most links
abbrev pub most_points : ℕ
most_points = 1024

abbrev pub most_links : ℕ
most_links = 2048

-- two different ends below the point count, and an admitted price
pub record LawfulLink {K : Type 0} (o : Operations K) (points : ℕ) (l : Link K) : Type 0 where
  pub first_below : l.first < points
  pub second_below : l.second < points
  pub apart : l.first ≡ l.second → ⊥
  pub priced : T (o.price l.price)

-- 1 to 1,024 points, at most 2,048 lawful links, and a carried total of so many admitted prices that together with the points they are at most 1,024
pub record Lawful {K : Type 0} (o : Operations K) (t : Table K) : Type 0 where
  pub at_least_one : 1 ≤ t.points
  pub few : t.points ≤ most_points
  pub short : length t.links ≤ most_links
  pub each : (i : ℕ) (l : Link K) → slice_get t.links i ≡ Some l → LawfulLink o t.points l
  pub carries : ℕ
  pub total : TotalOf o carries t.carried
  pub bounded : carries + t.points ≤ most_points
