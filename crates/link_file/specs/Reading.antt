-- What a reader stands for, and what the check and the writer promise.
use Rattle.std.specs.Prelude.{◌≡◌, ℕ, T, List, [], map, Ok}
use Rattle.price.specs.Kind.{Operations}
use Rattle.price.specs.Forms.{Forms}
use Rattle.table.specs.Table.{Table, Lawful}
use Rattle.link_file.specs.Format.{records_of, link_at, file_table, file_budget, file_bytes}
use Rattle.link_file.specs.Check.{checked}
use Rattle.link_file.specs.declared.input.Reader.{Reader}

module _ {K : Type 0} (o : Operations K) (f : Forms K) where
  -- the table that a reader stands for
  abbrev pub reader_table : Reader K → Table K
  reader_table r = record {
    points = r.points;
    links = map (link_at f o.zero) r.records.now;
    carried = o.zero;
  }

  -- no records: one point, no links, zero budget
  pub record Unfilled (r : Reader K) : Type 0 where
    pub records : r.records.now ≡ []
    pub table : reader_table r ≡ record { points = 1; links = []; carried = o.zero }
    pub budget : r.budget ≡ o.zero
    pub lawful : Lawful o (reader_table r)

  -- The reader holds the records of these bytes and stands for what the format says of them, which is lawful; written again it gives the same bytes.
  pub record Filled (r : Reader K) (bs : List ℕ) : Type 0 where
    pub records : r.records.now ≡ records_of bs
    pub table : reader_table r ≡ file_table f o.zero bs
    pub budget : r.budget ≡ file_budget f o.zero bs
    pub lawful : Lawful o (reader_table r)
    pub admitted : T (o.budget r.budget)
    pub again : file_bytes f (reader_table r) r.budget ≡ bs

  -- the file of a lawful table and an admitted budget
  abbrev pub LawfulFile : Table K → K → List ℕ → Type 0
  LawfulFile t budget bs = Lawful o t × T (o.budget budget) × (bs ≡ file_bytes f t budget)

  -- These bytes pass the check, and stand for this table, but that they carry nothing, and for this budget.
  pub record Stored (t : Table K) (budget : K) (bs : List ℕ) : Type 0 where
    pub passes : checked f bs ≡ Ok tt
    pub points : (file_table f o.zero bs).points ≡ t.points
    pub links : (file_table f o.zero bs).links ≡ t.links
    pub same : file_budget f o.zero bs ≡ budget
