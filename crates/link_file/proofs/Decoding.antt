-- What passes the check is lawful, and written again it gives the same bytes.
use Rattle.std.proofs.Common.{◌≡◌, ℕ, zero, suc, ◌+◌, ◌-◌, ◌*◌, ◌%◌, ◌<◌, ◌≤◌, Bool, true, false, not, ◌&&◌, T, eqb, ltb, List, [], ◌∷◌, ◌++◌, length, map, get_or, take, drop, is_some, Some, None, Ok, Option, unwrap_or, sym, refl, ap, ◌∙◌, subst, arith}
use Rattle.std.proofs.lemmas.List.{get_or-drop, length-drop}
use Rattle.std.proofs.lemmas.Bool.{not-false, or_parts, and_parts, eqb-true, eqb-false, ltb-true, ltb-false}
use Rattle.std.specs.List.{slice_get, flat_map}
use Rattle.std.specs.Simd.{first_chunks}
use Rattle.price.specs.Kind.{Operations}
use Rattle.price.specs.Kind.TotalOf.{none}
use Rattle.price.specs.Forms.{Forms, Storable, Tied, Four, number32, bytes32}
use Rattle.price.specs.FourBytes.{bytes_of_number}
use Rattle.table.specs.Marks.{mark_number, mark_of}
use Rattle.table.specs.Table.{Lawful, LawfulLink, most_points}
use Rattle.table.specs.declared.links.Link.{Link}
use Rattle.table.specs.declared.marks.Mark.TheVariants.{Free}
use Rattle.link_file.specs.Check.{first_fault, ends_wrong, header_cases, record_cases, records_cases, cases_of_records, answer, longest_file, shortest_file}
use Rattle.link_file.specs.Format.{header_length, record_length, record_count, records_of, number16, bytes16, four, record_bytes, header_bytes, file_bytes, link_at, links_of, file_table, file_budget}
use Rattle.link_file.specs.Reading.{reader_table, Filled}
use Rattle.link_file.specs.declared.input.Reader.{Reader}
use Rattle.link_file.proofs.Cells.{cells, cells_drop, pair_of_number, record_alone}
use Rattle.link_file.proofs.Faults.{append_none, none_left, none_apply, same_faults, answer_ok}

mark_back : (n : ℕ) → n ≤ 2 → mark_number (unwrap_or (mark_of n) Free) ≡ n
mark_back zero h = refl
mark_back (suc zero) h = refl
mark_back (suc (suc zero)) h = refl
mark_back (suc (suc (suc n))) h = absurd (omega arith)

length_links : {K : Type 0} (f : Forms K) (nothing : K) (n : ℕ) (bs : List ℕ) → length (links_of f nothing n bs) ≡ n
length_links f nothing zero bs = refl
length_links f nothing (suc n) bs = ap suc (length_links f nothing n (drop record_length bs))

-- the records of a file have the links that the file has
links_alone : {K : Type 0} (f : Forms K) (nothing : K) (n : ℕ) (bs : List ℕ) → map (link_at f nothing) (first_chunks record_length n bs) ≡ links_of f nothing n bs
links_alone f nothing zero bs = refl
links_alone f nothing (suc n) bs =
    let head : link_at f nothing (take record_length bs) ≡ link_at f nothing bs = record_alone (link_at f nothing) (λ _. refl) bs in
    let rest = links_alone f nothing n (drop record_length bs) in
    cc

module _ {K : Type 0} (o : Operations K) (f : Forms K) (storable : Storable o f) where
  -- a form that is some amount's
  module _ (admitted : K → Bool) (form : K → List ℕ) (reads : List ℕ → Option K) (tied : Tied admitted form reads) (nothing : K) where
    some_form : (bs : List ℕ) (r : Option K) → Four bs → reads bs ≡ r → is_some r ≡ true → T (admitted (unwrap_or r nothing)) × (form (unwrap_or r nothing) ≡ bs)
    some_form bs None fours e h = cc
    some_form bs (Some x) fours e h = tied.sole bs x fours e

  four_at : (bs : List ℕ) (at : ℕ) → ((k : ℕ) → get_or bs k 0 < 256) → (k : ℕ) → get_or (four bs at) k 0 < 256
  four_at bs at small zero = small at
  four_at bs at small (suc zero) = small (at + 1)
  four_at bs at small (suc (suc zero)) = small (at + 2)
  four_at bs at small (suc (suc (suc zero))) = small (at + 3)
  four_at bs at small (suc (suc (suc (suc k)))) = omega arith

  four_small : (bs : List ℕ) (at : ℕ) → ((k : ℕ) → get_or bs k 0 < 256) → Four (four bs at)
  four_small bs at small = record { four = refl; small = four_at bs at small }

  -- what the cases of a record say where none applies
  record Right (points : ℕ) (bs : List ℕ) : Type 0 where
    nine : get_or bs 0 0 ≡ 9
    ends : ends_wrong points (number16 bs 1) (number16 bs 3) ≡ false
    marked : get_or bs 5 0 ≤ 2
    priced : is_some (f.price_of (four bs 6)) ≡ true

  right_from : (points at : ℕ) (bs : List ℕ) → first_fault (record_cases f points at bs) ≡ None → Right points bs
  right_from points at bs h =
      let a = none_apply (record_cases f points at bs) h in
      record {
        nine = eqb-true (get_or bs 0 0) 9 (not-false _ a.0);
        ends = a.1.0;
        marked = ltb-false 2 (get_or bs 5 0) a.1.1.0;
        priced = not-false _ a.1.1.1.0;
      }

  module _ (points : ℕ) (bs : List ℕ) (small : (k : ℕ) → get_or bs k 0 < 256) (right : Right points bs) where
    price_form_lem : T (o.price (link_at f o.zero bs).price) × (f.price_form (link_at f o.zero bs).price ≡ four bs 6)
    price_form_lem = some_form o.price f.price_form f.price_of storable.prices o.zero (four bs 6) (f.price_of (four bs 6)) (four_small bs 6 small) refl right.priced

    record_lawful : LawfulLink o points (link_at f o.zero bs)
    record_lawful =
        let e = or_parts (not (ltb (number16 bs 1) points && ltb (number16 bs 3) points)) (eqb (number16 bs 1) (number16 bs 3)) right.ends in
        let b = and_parts (ltb (number16 bs 1) points) (ltb (number16 bs 3) points) (not-false _ e.0) in
        record {
          first_below = ltb-true (number16 bs 1) points b.0;
          second_below = ltb-true (number16 bs 3) points b.1;
          apart = eqb-false (number16 bs 1) (number16 bs 3) e.1;
          priced = price_form_lem.0;
        }

    record_again : record_bytes f (link_at f o.zero bs) ≡ cells bs 0 10
    record_again =
        let a = pair_of_number (get_or bs 1 0) (get_or bs 2 0) (small 1) (small 2) in
        let b = pair_of_number (get_or bs 3 0) (get_or bs 4 0) (small 3) (small 4) in
        let m = mark_back (get_or bs 5 0) right.marked in
        let p = price_form_lem.1 in
        let n = right.nine in
        ap (λ t. 9 ∷ bytes16 (number16 bs 1) ++ bytes16 (number16 bs 3) ++ (mark_number (unwrap_or (mark_of (get_or bs 5 0)) Free) ∷ t)) p
        ∙ ap (λ t. 9 ∷ bytes16 (number16 bs 1) ++ bytes16 (number16 bs 3) ++ (t ∷ four bs 6)) m
        ∙ ap (λ t. 9 ∷ bytes16 (number16 bs 1) ++ t ++ (get_or bs 5 0 ∷ four bs 6)) b
        ∙ ap (λ t. 9 ∷ t ++ (get_or bs 3 0 ∷ get_or bs 4 0 ∷ []) ++ (get_or bs 5 0 ∷ four bs 6)) a
        ∙ ap (λ t. t ∷ get_or bs 1 0 ∷ get_or bs 2 0 ∷ get_or bs 3 0 ∷ get_or bs 4 0 ∷ get_or bs 5 0 ∷ four bs 6) (sym n)

  small_drop : (n : ℕ) (bs : List ℕ) → ((k : ℕ) → get_or bs k 0 < 256) → (k : ℕ) → get_or (drop n bs) k 0 < 256
  small_drop n bs small k = rw get_or-drop (small (n + k))

  -- all records
  records_lawful : (points n at : ℕ) (bs : List ℕ) → ((k : ℕ) → get_or bs k 0 < 256) → first_fault (records_cases f points n at bs) ≡ None → (i : ℕ) (l : Link K) → slice_get (links_of f o.zero n bs) i ≡ Some l → LawfulLink o points l
  records_lawful points zero at bs small h i l e = cc
  records_lawful points (suc n) at bs small h zero l e =
      let here = right_from points at bs (none_left (record_cases f points at bs) (records_cases f points n (at + record_length) (drop record_length bs)) h) in
      let same : link_at f o.zero bs ≡ l = cc in
      subst (LawfulLink o points) same (record_lawful points bs small here)
  records_lawful points (suc n) at bs small h (suc i) l e =
      let front = none_left (record_cases f points at bs) (records_cases f points n (at + record_length) (drop record_length bs)) h in
      let rest = sym (append_none (record_cases f points at bs) (records_cases f points n (at + record_length) (drop record_length bs)) front) ∙ h in
      records_lawful points n (at + record_length) (drop record_length bs) (small_drop record_length bs small) rest i l e

  records_again : (points n at : ℕ) (bs : List ℕ) → ((k : ℕ) → get_or bs k 0 < 256) → length bs ≡ record_length * n → first_fault (records_cases f points n at bs) ≡ None → flat_map (record_bytes f) (links_of f o.zero n bs) ≡ bs
  records_again points zero at [] small long h = refl
  records_again points zero at (b ∷ bs) small long h = absurd (omega (arith, long))
  records_again points (suc n) at bs small long h =
      let front = none_left (record_cases f points at bs) (records_cases f points n (at + record_length) (drop record_length bs)) h in
      let rest = sym (append_none (record_cases f points at bs) (records_cases f points n (at + record_length) (drop record_length bs)) front) ∙ h in
      let shorter : length (drop record_length bs) ≡ record_length * n = rw length-drop (omega arith) in
      let enough : 0 + 10 ≤ length bs = omega arith in
      ap (λ t. t ++ flat_map (record_bytes f) (links_of f o.zero n (drop record_length bs))) (record_again points bs small (right_from points at bs front))
      ∙ ap (λ t. cells bs 0 10 ++ t) (records_again points n (at + record_length) (drop record_length bs) (small_drop record_length bs small) shorter rest)
      ∙ sym (cells_drop bs 10 0 enough)

  -- what the cases of the whole say where none applies
  record Header (bs : List ℕ) : Type 0 where
    long : shortest_file ≤ length bs
    short : length bs ≤ longest_file
    version : get_or bs 0 0 ≡ 1
    field : number32 (four bs 1) ≡ length bs - 5
    kind : get_or bs 5 0 ≡ f.code
    some : 1 ≤ number16 bs 6
    few : number16 bs 6 ≤ most_points
    budgeted : is_some (f.budget_of (four bs 8)) ≡ true
    records : length bs ≡ header_length + record_length * record_count bs

  header_from : (bs : List ℕ) → first_fault (header_cases f bs) ≡ None → Header bs
  header_from bs h =
      let a = none_apply (header_cases f bs) h in
      let b = a.1.1.1.1 in
      let size = or_parts (ltb (length bs) shortest_file) (ltb longest_file (length bs)) a.0 in
      let count = or_parts (eqb (number16 bs 6) 0) (ltb most_points (number16 bs 6)) b.0 in
      let long : shortest_file ≤ length bs = ltb-false (length bs) shortest_file size.0 in
      let field : number32 (four bs 1) ≡ length bs - 5 = eqb-true _ _ (not-false _ a.1.1.0) in
      let apart : number16 bs 6 ≡ 0 → ⊥ = eqb-false (number16 bs 6) 0 count.0 in
      let divided : (number32 (four bs 1) - 7) % record_length ≡ 0 = eqb-true _ _ (not-false _ b.1.1.0) in
      record {
        long = long;
        short = ltb-false longest_file (length bs) size.1;
        version = eqb-true (get_or bs 0 0) 1 (not-false _ a.1.0);
        field = field;
        kind = eqb-true (get_or bs 5 0) f.code (not-false _ a.1.1.1.0);
        some = omega arith;
        few = ltb-false most_points (number16 bs 6) count.1;
        budgeted = not-false _ b.1.0;
        records = omega arith;
      }

  module _ (bs : List ℕ) (small : (k : ℕ) → get_or bs k 0 < 256) (header : Header bs) where
    budget_form_lem : T (o.budget (file_budget f o.zero bs)) × (f.budget_form (file_budget f o.zero bs) ≡ four bs 8)
    budget_form_lem = some_form o.budget f.budget_form f.budget_of storable.budgets o.zero (four bs 8) (f.budget_of (four bs 8)) (four_small bs 8 small) refl header.budgeted

    header_again : header_bytes f (record_count bs) (number16 bs 6) (file_budget f o.zero bs) ≡ cells bs 0 12
    header_again =
        let size : 7 + record_length * record_count bs ≡ number32 (four bs 1) = omega arith in
        let n = bytes_of_number (four bs 1) (four_small bs 1 small) in
        let p = pair_of_number (get_or bs 6 0) (get_or bs 7 0) (small 6) (small 7) in
        ap (λ t. 1 ∷ bytes32 (7 + record_length * record_count bs) ++ (f.code ∷ bytes16 (number16 bs 6)) ++ t) budget_form_lem.1
        ∙ ap (λ t. 1 ∷ bytes32 (7 + record_length * record_count bs) ++ (f.code ∷ t) ++ four bs 8) p
        ∙ ap (λ t. 1 ∷ bytes32 (7 + record_length * record_count bs) ++ (t ∷ get_or bs 6 0 ∷ get_or bs 7 0 ∷ []) ++ four bs 8) (sym header.kind)
        ∙ ap (λ t. 1 ∷ bytes32 t ++ (get_or bs 5 0 ∷ get_or bs 6 0 ∷ get_or bs 7 0 ∷ []) ++ four bs 8) size
        ∙ ap (λ t. 1 ∷ t ++ (get_or bs 5 0 ∷ get_or bs 6 0 ∷ get_or bs 7 0 ∷ []) ++ four bs 8) n
        ∙ ap (λ t. t ∷ four bs 1 ++ (get_or bs 5 0 ∷ get_or bs 6 0 ∷ get_or bs 7 0 ∷ []) ++ four bs 8) (sym header.version)

    module _ (right : first_fault (records_cases f (number16 bs 6) (record_count bs) header_length (drop header_length bs)) ≡ None) where
      file_lawful : Lawful o (file_table f o.zero bs)
      file_lawful = record {
        at_least_one = header.some;
        few = header.few;
        short = omega (arith, length_links f o.zero (record_count bs) (drop header_length bs));
        each = records_lawful (number16 bs 6) (record_count bs) header_length (drop header_length bs) (small_drop header_length bs small) right;
        carries = 0;
        total = none;
        bounded = omega arith;
      }

      file_again : file_bytes f (file_table f o.zero bs) (file_budget f o.zero bs) ≡ bs
      file_again =
          let rest : length (drop header_length bs) ≡ record_length * record_count bs = rw length-drop (omega (arith, header.records)) in
          let enough : 0 + 12 ≤ length bs = header.long in
          ap (λ n. header_bytes f n (number16 bs 6) (file_budget f o.zero bs) ++ flat_map (record_bytes f) (links_of f o.zero (record_count bs) (drop header_length bs))) (length_links f o.zero (record_count bs) (drop header_length bs))
          ∙ ap (λ t. t ++ flat_map (record_bytes f) (links_of f o.zero (record_count bs) (drop header_length bs))) header_again
          ∙ ap (λ t. cells bs 0 12 ++ t) (records_again (number16 bs 6) (record_count bs) header_length (drop header_length bs) (small_drop header_length bs small) rest right)
          ∙ sym (cells_drop bs 12 0 enough)

      budget_admitted : T (o.budget (file_budget f o.zero bs))
      budget_admitted = budget_form_lem.0

  -- a reader with what the check read of these bytes
  pub filled : (r : Reader K) (bs : List ℕ) → ((k : ℕ) → get_or bs k 0 < 256) → r.records.now ≡ records_of bs → r.points ≡ number16 bs 6 → f.budget_of (four bs 8) ≡ Some r.budget → first_fault (header_cases f bs) ≡ None → Ok tt ≡ answer (first_fault (cases_of_records f r.points header_length r.records.now)) → Filled o f r bs
  filled r bs small records points budget sound passed =
      let header = header_from bs sound in
      let right = sym (same_faults f bs r.points r.records.now points records) ∙ answer_ok _ passed in
      let links : map (link_at f o.zero) r.records.now ≡ links_of f o.zero (record_count bs) (drop header_length bs) = ap (map (link_at f o.zero)) records ∙ links_alone f o.zero (record_count bs) (drop header_length bs) in
      let table : reader_table o f r ≡ file_table f o.zero bs = cc in
      let limit : r.budget ≡ file_budget f o.zero bs = sym (ap (λ b. unwrap_or b o.zero) budget) in
      record {
        records = records;
        table = table;
        budget = limit;
        lawful = subst (Lawful o) (sym table) (file_lawful bs small header right);
        admitted = subst (λ b. T (o.budget b)) (sym limit) (budget_admitted bs small header right);
        again = ap (λ t. file_bytes f t r.budget) table ∙ ap (file_bytes f (file_table f o.zero bs)) limit ∙ file_again bs small header right;
      }

-- one point and no links
pub lawful_empty : {K : Type 0} (o : Operations K) → Lawful o (record { points = 1; links = []; carried = o.zero })
lawful_empty o = record {
  at_least_one = omega arith;
  few = omega arith;
  short = omega arith;
  each = λ i l e. cc;
  carries = 0;
  total = none;
  bounded = omega arith;
}
