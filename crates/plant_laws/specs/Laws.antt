-- What a plant finds of itself after it was closed.
use Rattle.std.specs.Prelude.{◌≡◌, ◌⊎◌, ℤ, IsTrue, List, [], ◌∷◌, ◌++◌, Option, Some, None}
use Rattle.day_rows.specs.Chronicle.{date_of, log}
use Rattle.day_rows.specs.Schema.{IsSchema}
use Rattle.day_rows.specs.declared.entry.Entry.{Entry}
use Rattle.day_rows.specs.declared.schema.Shape.{Shape}
use Rattle.outside_api.specs.Disk.{DiskView}
use Rattle.date_loading.specs.Loading.{AreSettled}
use Rattle.date_loading.specs.declared.refusal.LoadRefusal.{LoadRefusal}
use Rattle.date_loading.specs.declared.refusal.LoadRefusal.TheVariants as l
use Rattle.plant_memory.specs.Memory.{MemoryView}
use Rattle.plant_core.specs.Load.{roll_to, IsLoaded, LoadRefuses}
use Rattle.plant_core.specs.Plant.{ShownPlant, MayBeLate, IsSound}
use Rattle.plant_core.specs.Progress.{IsFree}

-- these entries, or these and the late one
abbrev pub IsWithLate : List Entry → Option Entry → List Entry → Type 0
IsWithLate entries None found = found ≡ entries
IsWithLate entries (Some late) found = (found ≡ entries) ⊎ (found ≡ entries ++ late ∷ [])

-- the entries are those of the former log, maybe with a late one where the last commit had failed, and then the roll of the load
pub record IsFound (former : ShownPlant) (date : ℤ) (memory : MemoryView) : Type 0 where
  pub late : Option Entry
  pub allowed : MayBeLate former.memory.entries late
  pub kept : List Entry
  pub same : IsWithLate (log former.memory.entries) late kept
  pub entries : memory.entries ≡ kept ++ roll_to (date_of former.memory.frame.first kept) date

-- a plant on a disk that reports, and of which no sync had failed when it was loaded, is found again with the same first date
abbrev pub FoundAgain : Type 0
FoundAgain =
    (former : ShownPlant) (date : ℤ) (memory : MemoryView) → IsSchema former.memory.frame.schema → IsSound former
    → AreSettled former.origin → IsTrue former.disk.tells → memory.frame.first ≡ former.memory.frame.first
    → IsLoaded former.disk former.memory.frame.schema date memory → IsFound former date memory

-- what a disk that reports can be loaded as leaves no cause to refuse it, but that the disk fails or memory runs out
abbrev pub NoCause : Type 0
NoCause =
    (disk : DiskView) (schema : List Shape) (date : ℤ) (memory : MemoryView) (why : LoadRefusal) → IsSchema schema → IsTrue disk.tells
    → IsLoaded disk schema date memory → LoadRefuses disk schema date why → IsFree why

-- two refusals have the same cause, or one is out of memory or a fault of the disk
abbrev pub AreAlike : LoadRefusal → LoadRefusal → Type 0
AreAlike l.DiskFault those = Unit {0}
AreAlike l.NoMemory those = Unit {0}
AreAlike these l.DiskFault = Unit {0}
AreAlike these l.NoMemory = Unit {0}
AreAlike (l.BadManifest bytes) (l.BadManifest bytes') = Unit {0}
AreAlike (l.SchemaDiffers table kept given) (l.SchemaDiffers table' kept' given') = (table ≡ table') × (kept ≡ kept') × (given ≡ given')
AreAlike (l.EarlierDate kept) (l.EarlierDate kept') = kept ≡ kept'
AreAlike (l.CorruptLog day chunks bytes) (l.CorruptLog day' chunks' bytes') = day ≡ day'
AreAlike l.NumbersSpent l.NumbersSpent = Unit {0}
AreAlike these those = ⊥

-- a disk that reports has one cause of a refusal at most
abbrev pub OneCause : Type 0
OneCause =
    (disk : DiskView) (schema : List Shape) (date : ℤ) (these those : LoadRefusal) → IsSchema schema → IsTrue disk.tells
    → LoadRefuses disk schema date these → LoadRefuses disk schema date those → AreAlike these those
