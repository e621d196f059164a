-- Ranks order all numbers of a lawful table, since a price is a total of one, and past the links of none.
use Rattle.std.proofs.Common.{◌≡◌, ℕ, ◌<◌, Bool, true, false, not, ◌&&◌, ◌||◌, T, ltb, ◌⊎◌, Some, None, Option, refl, subst, inl, inr, arith}
use native.Mathlib.Decide.{dec_lt}
use Rattle.std.proofs.lemmas.Option.{slice_get_past}
use Rattle.std.specs.List.{slice_get}
use Rattle.price.specs.Kind.{Operations, Laws, Compared}
use Rattle.price.specs.Kind.TotalOf.{none, one}
use Rattle.price.specs.Kind.Compared.{total}
use Rattle.spanning.proofs.Subsets.{true_or, same_or}
use Rattle.table.specs.declared.links.Link.{Link}
use Rattle.table.specs.declared.marks.Role.{Role}
use Rattle.table.specs.declared.marks.Role.TheVariants as role
use Rattle.table.specs.Ranks.{link_count, kept, free, price_in, price_of, before, role_in, is_kept, is_free}
use Rattle.table.specs.Table.{Table, Lawful}
use Rattle.table.specs.Laws.{RanksOrder}

-- a strict total order of all numbers
pub record Strict (less : ℕ → ℕ → Bool) : Type 0 where
  pub never : (a : ℕ) → T (less a a) → ⊥
  pub onward : (a b c : ℕ) → T (less a b) → T (less b c) → T (less a c)
  pub either : (a b : ℕ) → (a ≡ b) ⊎ (T (less a b) ⊎ T (less b a))

-- a rank is lower for its price or, between equals, for its number
pub data Why (up down : Bool) (a b : ℕ) : Type 0 where
  lower : (T down → ⊥) → Why up down a b
  tied : T up → T down → a < b → Why up down a b

number_below_lem : (a b : ℕ) → T (ltb a b) → a < b
number_below_lem a b t = grind arith

below_number : (a b : ℕ) → a < b → T (ltb a b)
below_number a b l = grind arith

pub why : (up down : Bool) (a b : ℕ) → T (not down || ((up && down) && ltb a b)) → Why up down a b
why up false a b t = lower (λ f. f)
why true true a b t = tied tt tt (number_below_lem a b t)
why false true a b t = absurd t

pub because : (up down : Bool) (a b : ℕ) → Why up down a b → T (not down || ((up && down) && ltb a b))
because up false a b w = tt
because true true a b (lower f) = absurd (f tt)
because true true a b (tied u d l) = below_number a b l
because false true a b (lower f) = absurd (f tt)
because false true a b (tied u d l) = absurd u

module _ {K : Type 0} (o : Operations K) (laws : Laws o) (t : Table K) (lawful : Lawful o t) where
  compared_in : (i : ℕ) (l : Option (Link K)) → slice_get t.links i ≡ l → Compared o (price_in o l)
  compared_in i None e = total 0 o.zero none
  compared_in i (Some l) e = total 1 l.price (one l.price (lawful.each i l e).priced)

  pub compared : (k : ℕ) → Compared o (price_of o t k)
  compared k = compared_in k (slice_get t.links k) refl

  abbrev up_to : ℕ → ℕ → Bool
  up_to a b = o.not_above (price_of o t a) (price_of o t b)

  on : (a b c : ℕ) → T (up_to a b) → T (up_to b c) → T (up_to a c)
  on a b c = laws.transitive (price_of o t a) (price_of o t b) (price_of o t c) (compared a) (compared b) (compared c)

  one_way : (a b : ℕ) → T (up_to a b) ⊎ T (up_to b a)
  one_way a b = laws.either (price_of o t a) (price_of o t b) (compared a) (compared b)

  pub cheaper_first : (a b : ℕ) → T (before o t a b) → T (up_to a b)
  cheaper_first a b r = elim (why (up_to a b) (up_to b a) a b r) [
    | lower f ↦ elim (one_way a b) [ inl u ↦ u | inr d ↦ absurd (f d) ]
    | tied u d l ↦ u
  ]

  never_itself : (a : ℕ) → T (before o t a a) → ⊥
  never_itself a r = elim (why (up_to a a) (up_to a a) a a r) [
    | lower f ↦ elim (one_way a a) [ inl u ↦ f u | inr d ↦ f d ]
    | tied u d l ↦ absurd (omega arith)
  ]

  onwards : (a b c : ℕ) → T (before o t a b) → T (before o t b c) → T (before o t a c)
  onwards a b c r s = because (up_to a c) (up_to c a) a c (elim (why (up_to a b) (up_to b a) a b r) [
    | lower f ↦ lower (λ d. f (on b c a (cheaper_first b c s) d))
    | tied u d l ↦ elim (why (up_to b c) (up_to c b) b c s) [
      | lower h ↦ lower (λ e. h (on c a b e u))
      | tied v e m ↦ tied (on a b c u v) (on c b a e d) (omega arith)
    ]
  ])

  one_first : (a b : ℕ) → (a ≡ b) ⊎ (T (before o t a b) ⊎ T (before o t b a))
  one_first a b = elim (true_or (up_to a b)) [
    | inl u ↦ elim (true_or (up_to b a)) [
      | inl d ↦ elim (same_or a b) [
        | inl e ↦ inl e
        | inr n ↦ elim (dec_lt a b) [
          | yes l ↦ inr (inl (because (up_to a b) (up_to b a) a b (tied u d l)))
          | no l ↦ inr (inr (because (up_to b a) (up_to a b) b a (tied d u (omega arith))))
        ]
      ]
      | inr f ↦ inr (inl (because (up_to a b) (up_to b a) a b (lower f)))
    ]
    | inr f ↦ inr (inr (because (up_to b a) (up_to a b) b a (lower f)))
  ]

  pub strict_ranks : Strict (before o t)
  strict_ranks = record { never = never_itself; onward = onwards; either = one_first }

-- past the links none is kept, and none is free
pub kept_below_lem : {K : Type 0} (t : Table K) (k : ℕ) → T (kept t k) → k < link_count t
kept_below_lem t k h = elim (dec_lt k (link_count t)) [
  | yes l ↦ l
  | no l ↦ absurd (subst (λ x. T (is_kept (role_in x))) (slice_get_past t.links k (omega arith)) h)
]

pub free_below_lem : {K : Type 0} (t : Table K) (k : ℕ) → T (free t k) → k < link_count t
free_below_lem t k h = elim (dec_lt k (link_count t)) [
  | yes l ↦ l
  | no l ↦ absurd (subst (λ x. T (is_free (role_in x))) (slice_get_past t.links k (omega arith)) h)
]

pub not_both : (r : Role) → T (is_kept r) → T (is_free r) → ⊥
not_both role.Free h f = h
not_both role.Kept h f = f
not_both role.Barred h f = h

pub ranks_order : {K : Type 0} (o : Operations K) → Laws o → RanksOrder o
ranks_order o laws t lawful =
    let strict = strict_ranks o laws t lawful in (
      record {
        kept_below = kept_below_lem t;
        free_below = free_below_lem t;
        apart = λ k. not_both (role_in (slice_get t.links k));
        strict = λ a f. strict.never a;
        transitive = λ a b c f g h. strict.onward a b c;
        either = λ a b f g. strict.either a b;
      },
      (λ a b f g. cheaper_first o laws t lawful a b),
    )
