-- An array made from a function of the number, by calls that leave the function as it is.
use Rattle.std.proofs.Common.{◌≡◌, ℕ, ◌<◌, List, get_or}
use denote.Param.Members.{Mut, Called}
use Rattle.std.specs.Array.{IsFromFnResult}
use Rattle.forest.proofs.Arrays.{told_each}

pub made_each : {F B : Type 0} (g : Mut F (ℕ × Unit {0}) B) (f : F) (h : ℕ → B) (N : ℕ) → ((x : ℕ) (y : B) (q : F) → x < N → Called g f (x, tt) y q → (q ≡ f) × (y ≡ h x)) → (ys : List B) → IsFromFnResult g f ys N → (k : ℕ) (d : B) → k < N → get_or ys k d ≡ h k
made_each g f h N one ys made k d l = told_each g f (λ i y. y ≡ h i) N one ys made k d l
