-- What is written of a lawful table passes the check, and reads as the same table and budget.
use Rattle.std.proofs.Common.{◌≡◌, ℕ, suc, ◌+◌, ◌-◌, ◌*◌, ◌/◌, ◌%◌, ◌<◌, ◌≤◌, false, not, ◌||◌, T, eqb, ltb, List, [], ◌∷◌, ◌++◌, length, drop, is_some, Some, None, Ok, Result, unwrap_or, refl, ap, ◌∙◌, arith}
use Rattle.std.proofs.lemmas.List.{length-append, drop_at}
use Rattle.std.proofs.lemmas.Bool.{le-ltb, eq-eqb, ne_eqb, or_from}
use Rattle.std.specs.List.{slice_get, flat_map}
use Rattle.price.specs.Kind.{Operations}
use Rattle.price.specs.Forms.{Forms, Storable, number32}
use Rattle.price.specs.FourBytes.{number_of_bytes}
use Rattle.table.specs.Marks.{mark_number, mark_of}
use Rattle.table.specs.Table.{Table, Lawful, LawfulLink, most_points}
use Rattle.table.specs.declared.links.Link.{Link}
use Rattle.table.specs.declared.marks.Mark.{Mark}
use Rattle.table.specs.declared.marks.Mark.TheVariants.{Free, Kept, Barred}
use Rattle.table.specs.declared.refusals.FileFault.{FileFault}
use Rattle.link_file.specs.Check.{first_fault, ends_wrong, frame_cases, content_cases, record_cases, records_cases, file_cases, answer, checked, longest_file, shortest_file}
use Rattle.link_file.specs.Format.{header_length, record_length, record_count, number16, four, record_bytes, header_bytes, file_bytes, link_at, links_of}
use Rattle.link_file.specs.Reading.{LawfulFile, Stored}
use Rattle.link_file.proofs.Cells.{number_of_pair, four_in_front}
use Rattle.link_file.proofs.Faults.{append_none, none_from}

ends_right : (points a b : ℕ) → a < points → b < points → (a ≡ b → ⊥) → ends_wrong points a b ≡ false
ends_right points a b p q apart = grind arith

mark_small : (m : Mark) → mark_number m ≤ 2
mark_small Free = omega arith
mark_small Kept = omega arith
mark_small Barred = omega arith

mark_back : (m : Mark) → unwrap_or (mark_of (mark_number m)) Free ≡ m
mark_back Free = refl
mark_back Kept = refl
mark_back Barred = refl

abbrev link : {K : Type 0} → ℕ → ℕ → Mark → K → Link K
link a b m p = record { first = a; second = b; mark = m; price = p }

module _ {K : Type 0} (o : Operations K) (f : Forms K) (storable : Storable o f) where
  pub length_record : (l : Link K) → length (record_bytes f l) ≡ record_length
  length_record l = omega (arith, (storable.prices.long l.price).four)

  pub length_header : (links points : ℕ) (budget : K) → length (header_bytes f links points budget) ≡ header_length
  length_header links points budget = omega (arith, (storable.budgets.long budget).four)

  pub length_joined : (ls : List (Link K)) → length (flat_map (record_bytes f) ls) ≡ record_length * length ls
  length_joined [] = refl
  length_joined (l ∷ ls) =
      length-append (record_bytes f l) (flat_map (record_bytes f) ls)
      ∙ omega (arith, length_record l, length_joined ls)

  -- one record in front of others
  module _ (points : ℕ) (few : points ≤ most_points) (l : Link K) (rest : List ℕ) (lawful : LawfulLink o points l) where
    abbrev here : List ℕ
    here = record_bytes f l ++ rest

    first_is : number16 here 1 ≡ l.first
    first_is = number_of_pair l.first (omega (arith, lawful.first_below))

    second_is : number16 here 3 ≡ l.second
    second_is = number_of_pair l.second (omega (arith, lawful.second_below))

    form_is : four here 6 ≡ f.price_form l.price
    form_is = four_in_front (f.price_form l.price) rest (storable.prices.long l.price).four

    price_is : f.price_of (four here 6) ≡ Some l.price
    price_is = ap f.price_of form_is ∙ storable.prices.back l.price lawful.priced

    pub record_passes : (at : ℕ) → first_fault (record_cases f points at here) ≡ None
    record_passes at = none_from (record_cases f points at here) (
      refl,
      (
        ap (λ n. ends_wrong points n (number16 here 3)) first_is ∙ ap (λ n. ends_wrong points l.first n) second_is
            ∙ ends_right points l.first l.second lawful.first_below lawful.second_below lawful.apart,
        (
          le-ltb 2 (mark_number l.mark) (mark_small l.mark),
          (ap (λ r. not (is_some r)) price_is, tt),
        ),
      ),
    )

    pub record_reads : (nothing : K) → link_at f nothing here ≡ l
    record_reads nothing =
        ap (λ n. link n (number16 here 3) (unwrap_or (mark_of (mark_number l.mark)) Free) (unwrap_or (f.price_of (four here 6)) nothing)) first_is
        ∙ ap (λ n. link l.first n (unwrap_or (mark_of (mark_number l.mark)) Free) (unwrap_or (f.price_of (four here 6)) nothing)) second_is
        ∙ ap (λ m. link l.first l.second m (unwrap_or (f.price_of (four here 6)) nothing)) (mark_back l.mark)
        ∙ ap (λ p. link l.first l.second l.mark p) (ap (λ r. unwrap_or r nothing) price_is)

    pub drop_record : drop record_length here ≡ rest
    drop_record = drop_at (record_bytes f l) rest record_length (length_record l)

  pub records_pass : (points at : ℕ) (ls : List (Link K)) → points ≤ most_points → ((i : ℕ) (l : Link K) → slice_get ls i ≡ Some l → LawfulLink o points l) → first_fault (records_cases f points (length ls) at (flat_map (record_bytes f) ls)) ≡ None
  records_pass points at [] few each = refl
  records_pass points at (l ∷ ls) few each =
      let rest = flat_map (record_bytes f) ls in
      append_none (record_cases f points at (record_bytes f l ++ rest)) (records_cases f points (length ls) (at + record_length) (drop record_length (record_bytes f l ++ rest))) (record_passes points few l rest (each 0 l refl) at)
      ∙ ap (λ t. first_fault (records_cases f points (length ls) (at + record_length) t)) (drop_record points few l rest (each 0 l refl))
      ∙ records_pass points (at + record_length) ls few (λ i. each (suc i))

  pub records_read : (points : ℕ) (nothing : K) (ls : List (Link K)) → points ≤ most_points → ((i : ℕ) (l : Link K) → slice_get ls i ≡ Some l → LawfulLink o points l) → links_of f nothing (length ls) (flat_map (record_bytes f) ls) ≡ ls
  records_read points nothing [] few each = refl
  records_read points nothing (l ∷ ls) few each =
      let rest = flat_map (record_bytes f) ls in
      ap (λ x. x ∷ links_of f nothing (length ls) (drop record_length (record_bytes f l ++ rest))) (record_reads points few l rest (each 0 l refl) nothing)
      ∙ ap (λ t. l ∷ links_of f nothing (length ls) t) (drop_record points few l rest (each 0 l refl))
      ∙ ap (λ t. l ∷ t) (records_read points nothing ls few (λ i. each (suc i)))

  -- the whole file
  module _ (t : Table K) (budget : K) where
    abbrev links : ℕ
    links = length t.links

    abbrev bytes : List ℕ
    bytes = file_bytes f t budget

    pub length_file : length bytes ≡ header_length + record_length * links
    length_file =
        length-append (header_bytes f links t.points budget) (flat_map (record_bytes f) t.links)
        ∙ omega (arith, length_header links t.points budget, length_joined t.links)

    count_is : record_count bytes ≡ links
    count_is = ap (λ n. (n - header_length) / record_length) length_file ∙ omega arith

    records_are : drop header_length bytes ≡ flat_map (record_bytes f) t.links
    records_are = drop_at (header_bytes f links t.points budget) (flat_map (record_bytes f) t.links) header_length (length_header links t.points budget)

    module _ (lawful : Lawful o t) (admitted : T (o.budget budget)) where
      points_are : number16 bytes 6 ≡ t.points
      points_are = number_of_pair t.points (omega (arith, lawful.few))

      field_is : number32 (four bytes 1) ≡ 7 + record_length * links
      field_is = number_of_bytes (7 + record_length * links) (omega (arith, lawful.short))

      form_is_budget : f.budget_of (four bytes 8) ≡ Some budget
      form_is_budget =
          ap f.budget_of (four_in_front (f.budget_form budget) (flat_map (record_bytes f) t.links) (storable.budgets.long budget).four)
          ∙ storable.budgets.back budget admitted

      frame_passes : first_fault (frame_cases f bytes) ≡ None
      frame_passes = none_from (frame_cases f bytes) (
        ap (λ n. ltb n shortest_file || ltb longest_file n) length_file ∙ or_from _ _ (le-ltb (header_length + record_length * links) shortest_file (omega arith)) (le-ltb longest_file (header_length + record_length * links) (omega (arith, lawful.short))),
        (
          refl,
          (
            ap not (eq-eqb (number32 (four bytes 1)) (length bytes - 5) (omega (arith, field_is, length_file))),
            (ap not (eq-eqb f.code f.code refl), tt),
          ),
        ),
      )

      content_passes : first_fault (content_cases f bytes) ≡ None
      content_passes = none_from (content_cases f bytes) (
        ap (λ n. eqb n 0 || ltb most_points n) points_are ∙ or_from _ _ (ne_eqb t.points 0 (λ e. omega (arith, e, lawful.at_least_one))) (le-ltb most_points t.points lawful.few),
        (
          ap (λ r. not (is_some r)) form_is_budget,
          (ap not (eq-eqb ((number32 (four bytes 1) - 7) % record_length) 0 (omega (arith, field_is))), tt),
        ),
      )

      rest_passes : first_fault (records_cases f (number16 bytes 6) (record_count bytes) header_length (drop header_length bytes)) ≡ None
      rest_passes =
          ap (λ p. first_fault (records_cases f p (record_count bytes) header_length (drop header_length bytes))) points_are
          ∙ ap (λ n. first_fault (records_cases f t.points n header_length (drop header_length bytes))) count_is
          ∙ ap (λ r. first_fault (records_cases f t.points links header_length r)) records_are
          ∙ records_pass t.points header_length t.links lawful.few lawful.each

      -- no case of the whole file applies
      passes_all : first_fault (file_cases f bytes) ≡ None
      passes_all =
          append_none (frame_cases f bytes) (content_cases f bytes ++ records_cases f (number16 bytes 6) (record_count bytes) header_length (drop header_length bytes)) frame_passes
          ∙ append_none (content_cases f bytes) (records_cases f (number16 bytes 6) (record_count bytes) header_length (drop header_length bytes)) content_passes
          ∙ rest_passes

      pub stored : Stored o f t budget bytes
      stored = record {
        passes = ap answer passes_all;
        points = points_are;
        links =
            ap (λ n. links_of f o.zero n (drop header_length bytes)) count_is
            ∙ ap (λ r. links_of f o.zero links r) records_are
            ∙ records_read t.points o.zero t.links lawful.few lawful.each;
        same = ap (λ r. unwrap_or r o.zero) form_is_budget;
      }

  -- bytes that are such a file pass
  pub passes_exactly : (bs : List ℕ) (r : Result (Unit {0}) FileFault) → r ≡ checked f bs → (t : Table K) (budget : K) → LawfulFile o f t budget bs → r ≡ Ok tt
  passes_exactly bs r e t budget whole = e ∙ ap (checked f) whole.2 ∙ (stored t budget whole.0 whole.1).passes
