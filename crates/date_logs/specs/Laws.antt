-- What the definitions of a disk's entries say of each other.
use Rattle.std.specs.Prelude.{◌≡◌, ℕ, ℤ, IsTrue, List, Option}
use Rattle.outside_api.specs.Disk.{DiskView}
use Rattle.day_rows.specs.Schema.{IsSchema}
use Rattle.day_rows.specs.declared.entry.Entry.{Entry}
use Rattle.day_rows.specs.declared.schema.Shape.{Shape}
use Rattle.date_logs.specs.Moments.{RestartsFrom}
use Rattle.date_logs.specs.Restart.{Restarts}
use Rattle.date_logs.specs.Stores.{DateLogsView, Stores}

-- the files restart as one list of entries at most
abbrev pub RestartsOnce : Type 0
RestartsOnce =
    (schema : List Shape) (first : ℤ) (image : ℕ → List ℕ) (these those : List Entry) → IsSchema schema → Restarts schema first image these
    → Restarts schema first image those → these ≡ those

-- from whatever is found of a disk that stores entries, a plant restarts as these, or as these and the late one
abbrev pub StoredRestarts : Type 0
StoredRestarts =
    (disk : DiskView) (logs : DateLogsView) (schema : List Shape) (first : ℤ) (entries : List Entry) (late : Option Entry) → IsTrue disk.tells
    → Stores disk logs schema first entries late → RestartsFrom schema first entries late disk.now
