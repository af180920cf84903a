-- A load goes in one way.
use Rattle.std.specs.Prelude.{◌≡◌, ◌≢◌, ℕ, List}
use Rattle.day_rows.specs.Schema.{IsSchema}
use Rattle.day_rows.specs.declared.entry.Entry.{Entry}
use Rattle.day_rows.specs.declared.schema.Shape.{Shape}
use Rattle.partition_set.specs.declared.record.ManifestRecord.{ManifestRecord}
use Rattle.date_logs.specs.Restart.{LogHolds}
use Rattle.date_loading.specs.Differences.{DifferFirst}
use Rattle.date_loading.specs.Manifests.{HasRecords}
use Rattle.date_loading.specs.Refusals.{IsDamagedLog}

-- a file is the manifest of one list of records at most
abbrev pub OneManifest : Type 0
OneManifest = (file : List ℕ) (these those : List ManifestRecord) → HasRecords file these → HasRecords file those → these ≡ those

-- two lists of tables differ first in one table at most
abbrev pub OneDifference : Type 0
OneDifference =
    (kept given : List Shape) (name name' : List ℕ) (one one' other other' : Shape) → DifferFirst kept given name one other
    → DifferFirst kept given name' one' other' → (name ≡ name') × (one ≡ one') × (other ≡ other')

-- and in none where they are equal
abbrev pub NoDifference : Type 0
NoDifference = (kept given : List Shape) (name : List ℕ) (one other : Shape) → DifferFirst kept given name one other → kept ≢ given

-- a log that holds updates is damaged nowhere
abbrev pub NeverDamaged : Type 0
NeverDamaged =
    (schema : List Shape) (file : List ℕ) (updates : List Entry) (chunks at : ℕ) → IsSchema schema → LogHolds schema file updates
    → IsDamagedLog schema file chunks at → ⊥
