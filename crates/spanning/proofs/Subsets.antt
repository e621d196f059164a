-- Membership in sets made of others.
use Rattle.std.proofs.Common.{◌≡◌, ℕ, Bool, true, false, not, ◌&&◌, ◌||◌, T, eqb, ◌⊎◌, refl, subst, inl, inr, eqb→eq}
use lib.Dec.{eqb_refl}
use Rattle.spanning.specs.Sets.{with_link, without_link}

pub or_left : (a b : Bool) → T a → T (a || b)
or_left true b t = tt
or_left false b t = absurd t

pub or_right : (a b : Bool) → T b → T (a || b)
or_right true b t = tt
or_right false b t = t

pub or_cases : (a b : Bool) → T (a || b) → T a ⊎ T b
or_cases true b t = inl tt
or_cases false b t = inr t

pub and_both : (a b : Bool) → T a → T b → T (a && b)
and_both true b s t = t
and_both false b s t = absurd s

pub and_left : (a b : Bool) → T (a && b) → T a
and_left true b t = tt
and_left false b t = t

pub and_right : (a b : Bool) → T (a && b) → T b
and_right true b t = t
and_right false b t = absurd t

pub not_from : (b : Bool) → (T b → ⊥) → T (not b)
not_from true h = absurd (h tt)
not_from false h = tt

pub not_to : (b : Bool) → T (not b) → T b → ⊥
not_to true n t = n
not_to false n t = t

pub true_or : (b : Bool) → T b ⊎ (T b → ⊥)
true_or true = inl tt
true_or false = inr (λ t. t)

pub same_test : (a b : Bool) → (T a → T b) → (T b → T a) → a ≡ b
same_test true true h k = refl
same_test true false h k = absurd (h tt)
same_test false true h k = absurd (k tt)
same_test false false h k = refl

pub same_or : (k e : ℕ) → (k ≡ e) ⊎ (k ≡ e → ⊥)
same_or k e =
    elim (true_or (eqb k e)) [
      | inl t ↦ inl (eqb→eq k e t)
      | inr n ↦ inr (λ same. n (subst (λ j. T (eqb k j)) same (eqb_refl k)))
    ]

-- with a link
pub with_old : (S : ℕ → Bool) (e k : ℕ) → T (S k) → T (with_link S e k)
with_old S e k t = or_left (S k) (eqb k e) t

pub with_new : (S : ℕ → Bool) (e : ℕ) → T (with_link S e e)
with_new S e = or_right (S e) (eqb e e) (eqb_refl e)

pub with_cases : (S : ℕ → Bool) (e k : ℕ) → T (with_link S e k) → T (S k) ⊎ (k ≡ e)
with_cases S e k t = elim (or_cases (S k) (eqb k e) t) [ inl s ↦ inl s | inr q ↦ inr (eqb→eq k e q) ]

-- without a link
pub without_in : (S : ℕ → Bool) (e k : ℕ) → T (S k) → (k ≡ e → ⊥) → T (without_link S e k)
without_in S e k t apart = and_both (S k) (not (eqb k e)) t (not_from (eqb k e) (λ q. apart (eqb→eq k e q)))

pub without_old : (S : ℕ → Bool) (e k : ℕ) → T (without_link S e k) → T (S k)
without_old S e k t = and_left (S k) (not (eqb k e)) t

pub without_apart : (S : ℕ → Bool) (e k : ℕ) → T (without_link S e k) → k ≡ e → ⊥
without_apart S e k t same =
    not_to (eqb k e) (and_right (S k) (not (eqb k e)) t) (subst (λ j. T (eqb k j)) same (eqb_refl k))

abbrev pub Within : (ℕ → Bool) → (ℕ → Bool) → Type 0
Within S R = (k : ℕ) → T (S k) → T (R k)
