-- The first fault of cases one after the other.
use Rattle.std.proofs.Common.{◌≡◌, ℕ, zero, suc, ◌+◌, ◌*◌, ◌<◌, true, false, List, [], ◌∷◌, ◌++◌, length, get_or, take, drop, Some, None, Ok, Err, Option, sym, refl, ap, ◌∙◌, arith}
use Rattle.std.proofs.lemmas.Bool.{cond-false}
use Rattle.std.proofs.lemmas.List.{drop_more}
use Rattle.price.specs.Forms.{Forms}
use Rattle.table.specs.declared.refusals.FileFault.{FileFault}
use Rattle.std.specs.Simd.{first_chunks}
use Rattle.link_file.specs.Check.{Case, first_fault, header_cases, record_cases, records_cases, cases_of_records, answer, checked}
use Rattle.link_file.specs.Format.{header_length, record_length, record_count, records_of, number16}
use Rattle.link_file.proofs.Cells.{record_alone}

pub append_none : (xs ys : List Case) → first_fault xs ≡ None → first_fault (xs ++ ys) ≡ first_fault ys
append_none [] ys h = refl
append_none ((true, e) ∷ xs) ys h = cc
append_none ((false, e) ∷ xs) ys h = append_none xs ys h

append_some : (xs ys : List Case) (e : FileFault) → first_fault xs ≡ Some e → first_fault (xs ++ ys) ≡ Some e
append_some [] ys e h = cc
append_some ((true, d) ∷ xs) ys e h = h
append_some ((false, d) ∷ xs) ys e h = append_some xs ys e h

pub none_left : (xs ys : List Case) → first_fault (xs ++ ys) ≡ None → first_fault xs ≡ None
none_left [] ys h = refl
none_left ((true, e) ∷ xs) ys h = cc
none_left ((false, e) ∷ xs) ys h = none_left xs ys h

-- no fault: no case applies
abbrev pub NoneApply : List Case → Type 0
NoneApply [] = Unit {0}
NoneApply (c ∷ cs) = (c.0 ≡ false) × NoneApply cs

pub none_apply : (cs : List Case) → first_fault cs ≡ None → NoneApply cs
none_apply [] h = tt
none_apply ((true, e) ∷ cs) h = cc
none_apply ((false, e) ∷ cs) h = (refl, none_apply cs h)

pub none_from : (cs : List Case) → NoneApply cs → first_fault cs ≡ None
none_from [] h = refl
none_from (c ∷ cs) h = cond-false c.0 (Some c.1) (first_fault cs) h.0 ∙ none_from cs h.1

module _ {K : Type 0} (f : Forms K) (points : ℕ) (records : List (List ℕ)) (i : ℕ) where
  abbrev place : ℕ
  place = header_length + record_length * i

  -- the cases of the records from the i-th on
  abbrev left : ℕ → List Case
  left n = cases_of_records f points (header_length + record_length * n) (drop n records)

  turn : (d : List ℕ) → i < length records → left i ≡ record_cases f points place (get_or records i d) ++ left (i + 1)
  turn d h =
      let e : place + record_length ≡ header_length + record_length * (i + 1) = omega arith in
      ap (cases_of_records f points place) (drop_more records i d h)
      ∙ ap (λ n. record_cases f points place (get_or records i d) ++ cases_of_records f points n (drop (i + 1) records)) e

  -- a record without a fault leaves the first fault to those after it
  pub first_fault_next : (d : List ℕ) → i < length records → first_fault (record_cases f points place (get_or records i d)) ≡ None → first_fault (left i) ≡ first_fault (left (i + 1))
  first_fault_next d h none = ap first_fault (turn d h) ∙ append_none (record_cases f points place (get_or records i d)) (left (i + 1)) none

  -- and a record with one has it
  pub first_fault_here : (d : List ℕ) (e : FileFault) → i < length records → first_fault (record_cases f points place (get_or records i d)) ≡ Some e → first_fault (left i) ≡ Some e
  first_fault_here d e h some = ap first_fault (turn d h) ∙ append_some (record_cases f points place (get_or records i d)) (left (i + 1)) e some

-- the records of a file have the cases that the file has
cases_alone : {K : Type 0} (f : Forms K) (points n at : ℕ) (bs : List ℕ) → cases_of_records f points at (first_chunks record_length n bs) ≡ records_cases f points n at bs
cases_alone f points zero at bs = refl
cases_alone f points (suc n) at bs =
    let head : record_cases f points at (take record_length bs) ≡ record_cases f points at bs = record_alone (record_cases f points at) (λ _. refl) bs in
    let rest = cases_alone f points n (at + record_length) (drop record_length bs) in
    ap (λ cs. cs ++ cases_of_records f points (at + record_length) (first_chunks record_length n (drop record_length bs))) head
    ∙ ap (λ cs. record_cases f points at bs ++ cs) rest

-- What the check answers, from its parts: of a header without a fault, and of the points and records that it tells.
module _ {K : Type 0} (f : Forms K) (bs : List ℕ) (points : ℕ) (records : List (List ℕ)) (points_are : points ≡ number16 bs 6) (records_are : records ≡ records_of bs) where
  pub same_faults : first_fault (cases_of_records f points header_length records) ≡ first_fault (records_cases f (number16 bs 6) (record_count bs) header_length (drop header_length bs))
  same_faults =
      ap (λ p. first_fault (cases_of_records f p header_length records)) points_are
      ∙ ap (λ rs. first_fault (cases_of_records f (number16 bs 6) header_length rs)) records_are
      ∙ ap first_fault (cases_alone f (number16 bs 6) (record_count bs) header_length (drop header_length bs))

  pub checked_rest : first_fault (header_cases f bs) ≡ None → checked f bs ≡ answer (first_fault (cases_of_records f points header_length records))
  checked_rest none =
      ap answer (append_none (header_cases f bs) (records_cases f (number16 bs 6) (record_count bs) header_length (drop header_length bs)) none ∙ sym same_faults)

pub answer_ok : (x : Option FileFault) → Ok tt ≡ answer x → x ≡ None
answer_ok None h = refl
answer_ok (Some e) h = cc

pub answer_err : (x : Option FileFault) (e : FileFault) → Err e ≡ answer x → x ≡ Some e
answer_err None e h = let z : ◌≡◌ {A = ℕ} 0 1 = cc in absurd (omega arith)
answer_err (Some d) e h = cc
