-- The laws of the kind `drift`: largest numbers. Its forms.
use Rattle.std.specs.Prelude.{ℕ, ◌^◌, ◌<◌, max, T, ◌⊎◌, nat_le, refl}
use Rattle.std.proofs.Common.{sym, ap, subst, ◌∙◌, inl, inr, arith, leb→le, le→leb}
use Rattle.std.proofs.Math.Decide.{dec_le}
use Rattle.price.specs.Kind.{Laws}
use Rattle.price.specs.Forms.{number32, bytes32, Tied, Storable, only}
use Rattle.price.specs.Bottleneck.{of, within, largest, largest_budget, operations, forms}
use Rattle.price.specs.FourBytes.{number_of_bytes, bytes_of_number, four_bytes, only_yes, only_some}

either : (m n : ℕ) → T (nat_le m n) ⊎ T (nat_le n m)
either m n = elim (dec_le m n) [ yes h ↦ inl (le→leb m n h) | no h ↦ inr (le→leb n m (omega arith)) ]

pub lawful : Laws operations
lawful = record {
  either = λ x y _ _. either x.0 y.0;
  transitive = λ x y z _ _ _ p q. le→leb x.0 z.0 (omega (arith, leb→le x.0 y.0 p, leb→le y.0 z.0 q));
  swaps = λ m n x y _ _. ap of (omega arith);
  regroups = λ k m n x y z _ _ _. ap of (omega arith);
  neutral = λ n x _. ap of (omega arith);
  zero_budget = tt;
  keeps_order = λ m n x y p _ _ _ h. le→leb (max x.0 p.0) (max y.0 p.0) (omega (arith, leb→le x.0 y.0 h));
  exact = λ m n x y _ _ _. refl;
}

-- any range within 32 bits
tied : (high : ℕ) → high < 2 ^ 32 → Tied (within high) (λ x. bytes32 x.0) (λ bs. only (within high) (of (number32 bs)))
tied high below = record {
  long = λ x. four_bytes x.0;
  back = λ x t.
      let small : x.0 < 2 ^ 32 = omega (arith, leb→le x.0 high t) in
      ap (λ n. only (within high) (of n)) (number_of_bytes x.0 small) ∙ only_yes (within high) x t;
  sole = λ bs x f e.
      let found = only_some (within high) (of (number32 bs)) x e in
      (subst (λ y. T (within high y)) found.1 found.0, ap (λ y. bytes32 y.0) (sym found.1) ∙ bytes_of_number bs f);
}

pub storable : Storable operations forms
storable = record { prices = tied largest (omega arith); budgets = tied largest_budget (omega arith); byte = omega arith }
