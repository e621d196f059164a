-- The number that every other which passes a test stands before, by search.
use Rattle.std.proofs.Common.{◌≡◌, ℕ, zero, suc, ◌<◌, Bool, not, ◌&&◌, ◌||◌, T, eqb, ◌⊎◌, Some, None, Option, sym, refl, ◌∙◌, subst, inl, inr, arith, eqb→eq}
use lib.Dec.{eqb_refl}
use Rattle.spanning.proofs.Subsets.{and_both, and_left, and_right, or_left, or_right, or_cases, not_from, not_to, true_or, same_or}
use Rattle.table.specs.Findings.{every}
use Rattle.table.specs.Verdicts.{lowest}
use Rattle.table.proofs.Judged.{Found, search_lowest}
use Rattle.table.proofs.Judged.Found.{some, none}

pub every_in : (n : ℕ) (P : ℕ → Bool) → ((k : ℕ) → k < n → T (P k)) → T (every n P)
every_in zero P h = tt
every_in (suc n) P h = and_both (every n P) (P n) (every_in n P (λ k l. h k (omega arith))) (h n (omega arith))

pub every_out : (n : ℕ) (P : ℕ → Bool) → T (every n P) → (k : ℕ) → k < n → T (P k)
every_out zero P u k l = absurd (omega arith)
every_out (suc n) P u k l = elim (same_or k n) [
  | inl q ↦ subst (λ j. T (P j)) (sym q) (and_right (every n P) (P n) u)
  | inr apart ↦ every_out n P (and_left (every n P) (P n) u) k (omega arith)
]

-- numbers that pass a test Q, in an order in which of two different ones one stands before the other
module _ (Q : ℕ → Bool) (rel : ℕ → ℕ → Bool) (total : (a b : ℕ) → T (Q a) → T (Q b) → (a ≡ b) ⊎ (T (rel a b) ⊎ T (rel b a))) (onward : (a b c : ℕ) → T (Q a) → T (Q b) → T (Q c) → T (rel a b) → T (rel b c) → T (rel a c)) where
  abbrev AtEnd : ℕ → ℕ → Type 0
  AtEnd n l = T (Q l) × ((f : ℕ) → f < n → T (Q f) → (f ≡ l) ⊎ T (rel f l))

  next_end : (n l : ℕ) → AtEnd n l → T (Q n) → (b : ℕ) × (b < suc n ⊎ (b ≡ l)) × AtEnd (suc n) b
  next_end n l e u = elim (total n l u e.0) [
    | inl q ↦ (l, inr refl, (e.0, λ f less v. elim (same_or f n) [ inl r ↦ inl (r ∙ q) | inr apart ↦ e.1 f (omega arith) v ]))
    | inr r ↦ elim r [
      | inl s ↦ (
        l,
        inr refl,
        (
          e.0,
          λ f less v. elim (same_or f n) [
            | inl w ↦ inr (subst (λ j. T (rel j l)) (sym w) s)
            | inr apart ↦ e.1 f (omega arith) v
          ],
        ),
      )
      | inr s ↦ (
        n,
        inl (omega arith),
        (
          u,
          λ f less v. elim (same_or f n) [
            | inl w ↦ inl w
            | inr apart ↦ elim (e.1 f (omega arith) v) [
              | inl w ↦ inr (subst (λ j. T (rel j n)) (sym w) s)
              | inr w ↦ inr (onward f l n v e.0 u w s)
            ]
          ],
        ),
      )
    ]
  ]

  at_end : (n : ℕ) → ((l : ℕ) × (l < n) × AtEnd n l) ⊎ ((f : ℕ) → f < n → T (Q f) → ⊥)
  at_end zero = inr (λ f l u. omega arith)
  at_end (suc n) = elim (true_or (Q n)) [
    | inl u ↦ elim (at_end n) [
      | inl found ↦
          let step = next_end n found.0 found.2 u in
          inl (step.0, (elim step.1 [ inl l ↦ l | inr q ↦ (let less = found.1 in omega arith) ]), step.2)
      | inr empty ↦ inl (n, omega arith, (u, λ f less v. elim (same_or f n) [ inl w ↦ inl w | inr apart ↦ absurd (empty f (omega arith) v) ]))
    ]
    | inr out ↦ elim (at_end n) [
      | inl found ↦ inl (found.0, (let less = found.1 in omega arith), (found.2.0, λ f less v. elim (same_or f n) [ inl w ↦ absurd (out (subst (λ j. T (Q j)) w v)) | inr apart ↦ found.2.1 f (omega arith) v ]))
      | inr empty ↦ inr (λ f less v. elim (same_or f n) [ inl w ↦ out (subst (λ j. T (Q j)) w v) | inr apart ↦ empty f (omega arith) v ])
    ]
  ]

  abbrev test : ℕ → ℕ → Bool
  test n l = Q l && every n (λ f. not (Q f) || (eqb f l || rel f l))

  to_test : (n l : ℕ) → AtEnd n l → T (test n l)
  to_test n l e = and_both (Q l) (every n (λ f. not (Q f) || (eqb f l || rel f l))) e.0 (every_in n (λ f. not (Q f) || (eqb f l || rel f l)) (λ f less. elim (true_or (Q f)) [
    | inl v ↦ or_right (not (Q f)) (eqb f l || rel f l) (elim (e.1 f less v) [
      | inl q ↦ or_left (eqb f l) (rel f l) (subst (λ j. T (eqb f j)) q (eqb_refl f))
      | inr r ↦ or_right (eqb f l) (rel f l) r
    ])
    | inr v ↦ or_left (not (Q f)) (eqb f l || rel f l) (not_from (Q f) v)
  ]))

  from_test : (n l : ℕ) → T (test n l) → AtEnd n l
  from_test n l u = (
    and_left (Q l) (every n (λ f. not (Q f) || (eqb f l || rel f l))) u,
    λ f less v. elim (or_cases (not (Q f)) (eqb f l || rel f l) (every_out n (λ f. not (Q f) || (eqb f l || rel f l)) (and_right (Q l) (every n (λ f. not (Q f) || (eqb f l || rel f l))) u) f less)) [
      | inl w ↦ absurd (not_to (Q f) w v)
      | inr w ↦ elim (or_cases (eqb f l) (rel f l) w) [ inl q ↦ inl (eqb→eq f l q) | inr r ↦ inr r ]
    ],
  )

  -- what the search finds
  pub data Ends (n : ℕ) : Option ℕ → Type 0 where
    last : (l : ℕ) → l < n → T (Q l) → ((f : ℕ) → f < n → T (Q f) → (f ≡ l) ⊎ T (rel f l)) → Ends n (Some l)
    empty : ((f : ℕ) → f < n → T (Q f) → ⊥) → Ends n None

  ends_by : (n : ℕ) (r : Option ℕ) → Found n (test n) r → Ends n r
  ends_by n r (some l less u least) = let e = from_test n l u in last l less e.0 e.1
  ends_by n r (none h) = empty (elim (at_end n) [
    | inl found ↦ absurd (h found.0 found.1 (to_test n found.0 found.2))
    | inr no_one ↦ no_one
  ])

  pub search_end : (n : ℕ) → Ends n (lowest n (λ l. Q l && every n (λ f. not (Q f) || (eqb f l || rel f l))))
  search_end n = ends_by n (lowest n (test n)) (search_lowest n (test n))
