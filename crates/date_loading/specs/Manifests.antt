-- What a manifest's records say: its tables, and the date that it opened last.
use Rattle.std.specs.Prelude.{ℤ, ◌<ℤ◌, ◌≤ℤ◌, ℕ, List, [], ◌∷◌, Option, Some, None, unwrap_or}
use Rattle.gated_journal.specs.Format.{Reads}
use Rattle.day_rows.specs.declared.schema.Shape.{Shape}
use Rattle.partition_set.specs.Records.{payloads_of, IsManifest}
use Rattle.partition_set.specs.declared.record.ManifestRecord.{ManifestRecord}
use Rattle.partition_set.specs.declared.record.ManifestRecord.TheVariants as m

-- the file, as a read gives it, is the manifest of these records
pub record HasRecords (file : List ℕ) (records : List ManifestRecord) : Type 0 where
  pub reads : Reads file (payloads_of records)
  pub lawful : IsManifest records

-- the tables
abbrev pub tables_of : List ManifestRecord → List Shape
tables_of [] = []
tables_of (m.Shape shape ∷ records) = shape ∷ tables_of records
tables_of (m.Opened by date ∷ records) = tables_of records

-- the date that was opened last, if one was
abbrev pub last_date : List ManifestRecord → Option ℤ
last_date [] = None
last_date (m.Shape shape ∷ records) = last_date records
last_date (m.Opened by date ∷ records) = Some (unwrap_or (last_date records) date)

-- the date, if there is one, is earlier than this one
abbrev pub IsBefore : Option ℤ → ℤ → Type 0
IsBefore None date = Unit {0}
IsBefore (Some last) date = last <ℤ date

-- the date, if there is one, isn't later than this one
abbrev pub IsNotAfter : Option ℤ → ℤ → Type 0
IsNotAfter None date = Unit {0}
IsNotAfter (Some last) date = last ≤ℤ date
