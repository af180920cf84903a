-- The tables of a run: the built-in ones, or those of a file.
use Rattle.std.specs.Prelude.{◌≡◌, ◌≢◌, ◌⊎◌, ℕ, List, Option, Some, None, Result, Ok, Err, MatchResult}
use Rattle.day_rows.specs.declared.schema.Shape.{Shape}
use Rattle.program_outside.specs.Outside.{OutsideView, read_of}
use Rattle.schema_text.specs.BuiltIn.{built_in_tables}
use Rattle.schema_text.specs.Answers.{IsFaultOf}
use Rattle.schema_text.specs.Grammar.{Spells}
use Rattle.schema_text.specs.declared.refusal.SchemaRefusal.{SchemaRefusal}
use Rattle.schema_text.specs.declared.refusal.SchemaRefusal.TheVariants as r
use Rattle.plant_run.specs.Ends.{IsShort, CannotStart, CannotMake}
use Rattle.plant_run.specs.declared.causes.StartRefusal.TheVariants as s

-- these are the tables: the built-in ones, or those that the bytes of the file of this path spell
abbrev pub HasTables : Option (List ℕ) → List Shape → OutsideView → OutsideView → Type 0
HasTables None tables old new = (tables ≡ built_in_tables) × (new ≡ old)
HasTables (Some path) tables old new = (bytes : List ℕ) × Spells bytes tables × (new ≡ read_of old path bytes)

-- the file's bytes are no schema
abbrev pub IsNoSchema : List ℕ → OutsideView → OutsideView → ℕ → Type 0
IsNoSchema path old new status =
    (bytes : List ℕ) × ((why : SchemaRefusal) × (why ≢ r.NoMemory) × IsFaultOf bytes why × CannotStart path (s.Schema why) (read_of old path bytes) new status)

-- there was no memory for them, before or after the file was read
abbrev pub WantsTables : List ℕ → OutsideView → OutsideView → ℕ → Type 0
WantsTables path old new status = IsShort old new status ⊎ ((bytes : List ℕ) × IsShort (read_of old path bytes) new status)

-- the program ends since there are no tables
abbrev pub HasNoTables : Option (List ℕ) → OutsideView → OutsideView → ℕ → Type 0
HasNoTables None old new status = IsShort old new status
HasNoTables (Some path) old new status = CannotMake path old new status ⊎ (IsNoSchema path old new status ⊎ WantsTables path old new status)

-- the tables, or the exit status of a program that ends without them
abbrev pub FindsTables : Option (List ℕ) → OutsideView → OutsideView → Result (List Shape) ℕ → Type 0
FindsTables path old new result = MatchResult result (λ tables. HasTables path tables old new) (λ status. HasNoTables path old new status)

-- the tables that these bytes of a file spell, or the exit status of a program that ends without them
abbrev pub FindsIn : List ℕ → List ℕ → OutsideView → OutsideView → Result (List Shape) ℕ → Type 0
FindsIn path bytes old new (Ok tables) = Spells bytes tables × (new ≡ old)
FindsIn path bytes old new (Err status) =
    IsShort old new status
    ⊎ ((why : SchemaRefusal) × (why ≢ r.NoMemory) × IsFaultOf bytes why × CannotStart path (s.Schema why) old new status)
