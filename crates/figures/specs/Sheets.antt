-- The tables of the worked figures.
use Rattle.std.specs.Prelude.{ℕ, Bool, ◌||◌, List, [], ◌∷◌, pos, neg_ℤ, ◌==◌}
use Rattle.price.specs.Additive as additive
use Rattle.price.specs.Bottleneck as bottleneck
use Rattle.price.specs.Kind.{Operations}
use Rattle.price.specs.declared.additive.Bytes.{Bytes}
use Rattle.price.specs.declared.bottleneck.Drift.{Drift}
use Rattle.table.specs.declared.links.Link.{Link}
use Rattle.table.specs.declared.marks.Mark.{Mark}
use Rattle.table.specs.declared.marks.Mark.TheVariants as mark
use Rattle.table.specs.Table.{Table}

-- so many bytes, one byte saved, and so many sixty-fourths of a pixel
abbrev pub bytes : ℕ → Bytes
bytes n = additive.of (pos n)

abbrev pub minus_one : Bytes
minus_one = additive.of (neg_ℤ (pos 1))

abbrev pub drift : ℕ → Drift
drift n = bottleneck.of n

-- a link by its ends, its mark and its price, and a table that carries zero
abbrev pub link : {K : Type 0} → ℕ → ℕ → Mark → K → Link K
link x y m price = record { first = x; second = y; mark = m; price = price }

abbrev pub table : {K : Type 0} → Operations K → ℕ → List (Link K) → Table K
table o points links = record { points = points; links = links; carried = o.zero }

-- sheet A: five links on four points, with these marks
abbrev pub links_of_a : {K : Type 0} → (ℕ → K) → Mark → Mark → Mark → Mark → Mark → List (Link K)
links_of_a of m₀ m₁ m₂ m₃ m₄ = link 0 1 m₀ (of 4) ∷ link 1 2 m₁ (of 3) ∷ link 0 2 m₂ (of 5) ∷ link 2 3 m₃ (of 2) ∷ link 1 3 m₄ (of 6) ∷ []

abbrev pub sheet_a : Table Bytes
sheet_a = table additive.operations 4 (links_of_a bytes mark.Free mark.Free mark.Free mark.Kept mark.Free)

-- sheet A as drift
abbrev pub drift_a : Table Drift
drift_a = table bottleneck.operations 4 (links_of_a drift mark.Free mark.Free mark.Free mark.Kept mark.Free)

-- sheet A with links 0, 1 and 2 kept, and besides with links 3 and 4 barred
abbrev pub ring_a : Table Bytes
ring_a = table additive.operations 4 (links_of_a bytes mark.Kept mark.Kept mark.Kept mark.Kept mark.Free)

abbrev pub ring_and_cut_a : Table Bytes
ring_and_cut_a = table additive.operations 4 (links_of_a bytes mark.Kept mark.Kept mark.Kept mark.Barred mark.Barred)

-- one point, two points without a link, and two points with two links of one price
abbrev pub one_point : Table Bytes
one_point = table additive.operations 1 []

abbrev pub two_points : Table Bytes
two_points = table additive.operations 2 []

abbrev pub twins : Table Bytes
twins = table additive.operations 2 (link 0 1 mark.Free (bytes 5) ∷ link 0 1 mark.Free (bytes 5) ∷ [])

-- links 0, 1 and 3, and link 0
abbrev pub tree_of_a : ℕ → Bool
tree_of_a k = k == 0 || (k == 1 || k == 3)

abbrev pub tree_of_twins : ℕ → Bool
tree_of_twins k = k == 0
