-- The numbers that are printed for amounts.
use Rattle.std.specs.Prelude.{ℤ, pos}
use Rattle.price.specs.declared.additive.Bytes.{Bytes}
use Rattle.price.specs.declared.bottleneck.Drift.{Drift}

-- how many bytes
abbrev pub bytes_printed : Bytes → ℤ
bytes_printed x = x.0

-- how many sixty-fourths of a pixel
abbrev pub drift_printed : Drift → ℤ
drift_printed x = pos x.0
