-- The laws of the kind `steps`. Totals of prices have even counts.
use Rattle.std.specs.Prelude.{◌≡◌, ℕ, ◌+◌, ◌*◌, ◌%◌, ◌≤◌, Bool, true, false, cond, ◌&&◌, T, ◌⊎◌, nat_le, refl}
use Rattle.std.proofs.Common.{sym, ap, subst, ◌∙◌, inl, inr, arith, eq-eqb, leb→le, le→leb, eqb→eq}
use Rattle.std.proofs.Math.Decide.{dec_le}
use Rattle.price.specs.Kind.{TotalOf, Compared, Laws}
use Rattle.price.specs.Kind.TotalOf.{none, one, both}
use Rattle.price.specs.Kind.Compared.{total, limit}
use Rattle.kind_tests.specs.Steps.{of, even, nearest, operations}
use Rattle.kind_tests.specs.declared.steps.Steps.{Steps}

both_left : (a b : Bool) → T (a && b) → T a
both_left true b t = tt
both_left false b t = t

both_right : (a b : Bool) → T (a && b) → T b
both_right true b t = t
both_right false b t = absurd t

joined : (a b : Bool) → T a → T b → T (a && b)
joined true b s t = t
joined false b s t = absurd s

is_even : (n : ℕ) → T (even n) → n % 2 ≡ 0
is_even n t = eqb→eq (n % 2) 0 t

even_is : (n : ℕ) → n % 2 ≡ 0 → T (even n)
even_is n e = subst T (sym (eq-eqb (n % 2) 0 e)) tt

-- the total of two amounts, the first with an even count
sum : (x y : Steps) → x.count % 2 ≡ 0 → operations.plus x y ≡ of (x.count + y.count) (x.tag + y.tag)
sum x y e = ap (λ b. cond b (of (x.count + y.count) (x.tag + y.tag)) x) (eq-eqb (x.count % 2) 0 e)

-- n prices have an even count, and are bounded
pub record Within (n : ℕ) (x : Steps) : Type 0 where
  pub even_count : x.count % 2 ≡ 0
  pub few : x.count ≤ n * 200
  pub low : x.tag ≤ n * 255

within_sum : (m n : ℕ) (x y : Steps) → Within m x → Within n y → Within (m + n) (of (x.count + y.count) (x.tag + y.tag))
within_sum m n x y p q = record { even_count = omega arith; few = omega arith; low = omega arith }

pub within : (n : ℕ) (x : Steps) → TotalOf operations n x → Within n x
within n x none = record { even_count = refl; few = omega arith; low = omega arith }
within n x (one p h) =
    let front = both_left (even p.count && nat_le p.count 200) (nat_le p.tag 255) h in
    record {
      even_count = is_even p.count (both_left (even p.count) (nat_le p.count 200) front);
      few = omega (arith, leb→le p.count 200 (both_right (even p.count) (nat_le p.count 200) front));
      low = omega (arith, leb→le p.tag 255 (both_right (even p.count && nat_le p.count 200) (nat_le p.tag 255) h));
    }
within n x (both k m y z a b) =
    let p = within k y a in
    subst (Within (k + m)) (sym (sum y z p.even_count)) (within_sum k m y z p (within m z b))

compared : (x : Steps) → Compared operations x → x.count % 2 ≡ 0
compared x (total n y t) = (within n y t).even_count
compared x (limit y t) = is_even y.count t

ordered : (x y : Steps) → x.count % 2 ≡ 0 → x.count ≤ y.count → T (operations.not_above x y)
ordered x y e h = joined (even x.count) (nat_le x.count y.count) (even_is x.count e) (le→leb x.count y.count h)

below : (x y : Steps) → T (operations.not_above x y) → x.count ≤ y.count
below x y t = leb→le x.count y.count (both_right (even x.count) (nat_le x.count y.count) t)

either : (x y : Steps) → x.count % 2 ≡ 0 → y.count % 2 ≡ 0 → T (operations.not_above x y) ⊎ T (operations.not_above y x)
either x y e f =
    elim (dec_le x.count y.count) [ yes h ↦ inl (ordered x y e h) | no h ↦ inr (ordered y x f (omega arith)) ]

swapped : (x y : Steps) → x.count % 2 ≡ 0 → y.count % 2 ≡ 0 → operations.plus x y ≡ operations.plus y x
swapped x y e f = sum x y e ∙ ap (λ n. of n (x.tag + y.tag)) (omega arith) ∙ ap (of (y.count + x.count)) (omega arith) ∙ sym (sum y x f)

regrouped : (x y z : Steps) → x.count % 2 ≡ 0 → y.count % 2 ≡ 0 → operations.plus (operations.plus x y) z ≡ operations.plus x (operations.plus y z)
regrouped x y z e f =
    ap (λ s. operations.plus s z) (sum x y e)
    ∙ sum (of (x.count + y.count) (x.tag + y.tag)) z (omega arith)
    ∙ ap (λ n. of n ((x.tag + y.tag) + z.tag)) (omega arith)
    ∙ ap (of (x.count + (y.count + z.count))) (omega arith)
    ∙ sym (sum x (of (y.count + z.count) (y.tag + z.tag)) e)
    ∙ ap (operations.plus x) (sym (sum y z f))

neutral : (x : Steps) → operations.plus operations.zero x ≡ x
neutral x = ap (λ n. of n (0 + x.tag)) (omega arith) ∙ ap (of x.count) (omega arith)

kept : (x y p : Steps) → x.count % 2 ≡ 0 → y.count % 2 ≡ 0 → p.count % 2 ≡ 0 → x.count ≤ y.count → T (operations.not_above (operations.plus x p) (operations.plus y p))
kept x y p e f g h =
    subst (λ s. T (operations.not_above s (operations.plus y p))) (sym (sum x p e))
    (subst (λ s. T (operations.not_above (of (x.count + p.count) (x.tag + p.tag)) s)) (sym (sum y p f))
    (ordered (of (x.count + p.count) (x.tag + p.tag)) (of (y.count + p.count) (y.tag + p.tag)) (omega arith) (omega arith)))

exact : (m n : ℕ) (x y : Steps) → Within m x → Within n y → m + n ≤ 1023 → operations.added x y ≡ operations.plus x y
exact m n x y p q few =
    ap (λ c. cond (even x.count) (of c (nearest (x.tag + y.tag))) x) (omega arith)
    ∙ ap (λ t. cond (even x.count) (of (x.count + y.count) t) x) (omega arith)

pub lawful : Laws operations
lawful = record {
  either = λ x y p q. either x y (compared x p) (compared y q);
  transitive = λ x y z p _ _ s t. ordered x z (compared x p) (omega (arith, below x y s, below y z t));
  swaps = λ m n x y a b. swapped x y (within m x a).even_count (within n y b).even_count;
  regroups = λ k m n x y z a b _. regrouped x y z (within k x a).even_count (within m y b).even_count;
  neutral = λ n x _. neutral x;
  zero_budget = tt;
  keeps_order = λ m n x y p a b t h. kept x y p (within m x a).even_count (within n y b).even_count (within 1 p (one p t)).even_count (below x y h);
  exact = λ m n x y a b few. exact m n x y (within m x a) (within n y b) few;
}
