-- A run of `init`: a folder is formatted.
use Rattle.std.specs.Prelude.{◌≡◌, ◌⊎◌, ℕ, ℤ, IsTrue, List, [], length, map, None, Result, Ok, Err, OnOk}
use Rattle.date_logs.specs.Format.{IsMadeFrom, IfMade, FormatCounts}
use Rattle.date_logs.specs.Moments.{RestartsFrom}
use Rattle.date_logs.specs.declared.refusal.FormatRefusal.{FormatRefusal}
use Rattle.date_logs.specs.declared.refusal.FormatRefusal.TheVariants as f
use Rattle.day_rows.specs.declared.schema.Shape.{Shape}
use Rattle.gated_journal.specs.Format.{Reads}
use Rattle.outside_api.specs.Disk.{DiskView}
use Rattle.partition_set.specs.Records.{payloads_of}
use Rattle.partition_set.specs.declared.record.ManifestRecord.TheVariants as m
use Rattle.program_outside.specs.Outside.{OutsideView, opened_of, kept_of}
use Rattle.plant_run.specs.Ends.{IsShort, CannotStart, CannotMake}
use Rattle.plant_run.specs.declared.causes.StartRefusal.TheVariants as s

-- what formatting a disk for a plant of these tables answers and leaves
pub record Formats (tables : List Shape) (old new : DiskView) (result : Result (Unit {0}) FormatRefusal) : Type 0 where
  pub made : IsTrue old.tells → IsMadeFrom (length (old.now 0).bytes) result
  pub unchanged : IfMade result (IsTrue old.tells → new.now ≡ old.now)
  pub restarts : OnOk result (IsTrue old.tells → (first : ℤ) → RestartsFrom tables first [] None new.now)
  pub manifest : OnOk result (IsTrue old.tells → Reads (new.now 0).bytes (payloads_of (map m.Shape tables)))
  pub counts : FormatCounts old new result

-- the program ends as the formatting of the folder of this path went
abbrev pub EndsFormat : List ℕ → OutsideView → OutsideView → ℕ → Result (Unit {0}) FormatRefusal → Type 0
EndsFormat path old new status (Ok _) = (status ≡ 0) × (new ≡ old)
EndsFormat path old new status (Err f.NoMemory) = IsShort old new status
EndsFormat path old new status (Err f.AlreadyMade) = CannotStart path (s.Format f.AlreadyMade) old new status
EndsFormat path old new status (Err f.DiskFault) = CannotStart path (s.Format f.DiskFault) old new status

-- the folder can't be opened, and that is counted; or its disk is formatted and handed back
abbrev pub FormatsIn : List Shape → List ℕ → OutsideView → OutsideView → ℕ → Type 0
FormatsIn tables path old new status =
    CannotMake path old new status
    ⊎ ((disk_old disk_new : DiskView) × ((result : Result (Unit {0}) FormatRefusal) × Formats tables disk_old disk_new result
    × EndsFormat path (kept_of (opened_of old path disk_old) disk_new) new status result))
