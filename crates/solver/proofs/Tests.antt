-- What a test tells.
use Rattle.std.proofs.Common.{◌≡◌, Bool, true, false, T, refl}

pub is_true : (b : Bool) → T b → b ≡ true
is_true true t = refl
is_true false t = absurd t

pub is_false : (b : Bool) → (T b → ⊥) → b ≡ false
is_false true n = absurd (n tt)
is_false false n = refl
