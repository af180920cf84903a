-- What a plant is after a restart from an image of its disk: the entries that the manifest and the dates' logs encode. No date
-- is saved as a part here.
use Rattle.std.specs.Prelude.{◌≡◌, ◌⊎◌, ℕ, ◌+◌, ◌-◌, ℤ, pos, negsuc, List, [], ◌∷◌, ◌++◌, map, Option, Some, None}
use Rattle.std.specs.List.{AllByRecursion}
use Rattle.outside_api.specs.Disk.{FileState, IsImage}
use Rattle.gated_journal.specs.Format.{Reads}
use Rattle.day_rows.specs.Day.{entry_rows}
use Rattle.day_rows.specs.declared.entry.Entry.{Entry}
use Rattle.day_rows.specs.declared.entry.Entry.TheVariants as e
use Rattle.day_rows.specs.declared.schema.Shape.{Shape}
use Rattle.tick_log.specs.Replay.{AreChunks}
use Rattle.partition_set.specs.Records.{payloads_of, IsManifest}
use Rattle.partition_set.specs.declared.record.ManifestRecord.{ManifestRecord}
use Rattle.partition_set.specs.declared.record.ManifestRecord.TheVariants as m

-- what a crash may leave of a disk: an image of each file
abbrev pub IsImageOf : (ℕ → FileState) → (ℕ → List ℕ) → Type 0
IsImageOf files image = (k : ℕ) → IsImage (files k) (image k)

-- what a restart finds of a file: after a crash an image, else what reads give
abbrev pub IsFound : FileState → List ℕ → Type 0
IsFound file found = IsImage file found ⊎ (found ≡ file.bytes)

abbrev pub IsFoundOf : (ℕ → FileState) → (ℕ → List ℕ) → Type 0
IsFoundOf files found = (k : ℕ) → IsFound (files k) (found k)

-- the number of the file of a date's log: 1,000,000 and the date
abbrev pub log_file : ℤ → ℕ
log_file (pos n) = 1000000 + n
log_file (negsuc n) = 999999 - n

-- a date, the pass that opened it, and its updates
pub record Dated : Type 0 where
  pub by : ℕ
  pub date : ℤ
  pub updates : List Entry

abbrev pub opening : Dated → ManifestRecord
opening d = m.Opened d.by d.date

-- the manifest of a plant with these tables and dates
abbrev pub manifest_of : List Shape → List Dated → List ManifestRecord
manifest_of schema dates = map m.Shape schema ++ map opening dates

-- each date begins with the roll that opened it
abbrev pub rolled : List Dated → List Entry
rolled [] = []
rolled (d ∷ dates) = e.Roll d.by d.date ∷ (d.updates ++ rolled dates)

-- the entries of dates: no roll opens the first
abbrev pub entries_of : List Dated → List Entry
entries_of [] = []
entries_of (d ∷ dates) = d.updates ++ rolled dates

abbrev pub BeginsAt : ℤ → List Dated → Type 0
BeginsAt first [] = Unit {0}
BeginsAt first (d ∷ dates) = d.date ≡ first

-- dates that a plant may have, the first of which is this one, and their entries
pub record AreDates (schema : List Shape) (first : ℤ) (dates : List Dated) (entries : List Entry) : Type 0 where
  pub lawful : IsManifest (manifest_of schema dates)
  pub begins : BeginsAt first dates
  pub spelled : entries ≡ entries_of dates

-- a log's file holds these updates
pub record LogHolds (schema : List Shape) (file : List ℕ) (updates : List Entry) : Type 0 where
  pub records : List (List ℕ)
  pub reads : Reads file records
  pub chunks : AreChunks schema 0 records updates

-- a plant restarts from the files as these entries
pub record Restarts (schema : List Shape) (first : ℤ) (image : ℕ → List ℕ) (entries : List Entry) : Type 0 where
  pub dates : List Dated
  pub are : AreDates schema first dates entries
  pub manifest : Reads (image 0) (payloads_of (manifest_of schema dates))
  pub logs : AllByRecursion (λ d. LogHolds schema (image (log_file d.date)) d.updates) dates

-- the same, or with a late entry at their end
abbrev pub MayRestart : List Shape → ℤ → (ℕ → List ℕ) → List Entry → Option Entry → Type 0
MayRestart schema first image entries None = Restarts schema first image entries
MayRestart schema first image entries (Some late) = Restarts schema first image entries ⊎ Restarts schema first image (entries ++ late ∷ [])

-- the number of rows since the last roll, where there were this many before
abbrev pub open_rows_from : ℕ → List Entry → ℕ
open_rows_from n [] = n
open_rows_from n (e.Upd by table columns ∷ entries) = open_rows_from (n + entry_rows (e.Upd by table columns)) entries
open_rows_from n (e.Roll by date ∷ entries) = open_rows_from 0 entries
open_rows_from n (e.Fault by ∷ entries) = open_rows_from n entries

-- the number of rows of the open date
abbrev pub open_rows : List Entry → ℕ
open_rows = open_rows_from 0
