-- What the code that judges updates gives.
use Rattle.std.specs.Prelude.{◌≡◌, ◌+◌, ◌≤◌, ℕ, ℤ, true, false, if◌then◌else◌, List, [], ◌∷◌, ◌++◌, map, Result, Ok, Err, Option, Some, None, slice_get}
use Rattle.q_values.specs.Contents.{Contents}
use Rattle.q_values.specs.Tree.{Tree}
use Rattle.q_values.specs.declared.kind.Kind.{Kind}
use Rattle.q_values.specs.declared.limits.Limits.{Limits}
use Rattle.day_rows.specs.Day.{IsUpdate, entry_rows}
use Rattle.day_rows.specs.declared.schema.Shape.{Shape}
use Rattle.plant_memory.specs.Chronicle.{by_of}
use Rattle.plant_memory.specs.Items.{columns_of}
use Rattle.plant_memory.specs.Limit.{is_beyond}
use Rattle.plant_memory.specs.Verdict.{Verdict, accepts, refuses, is_next_day, roll_due, ruling, items_judged, table_from}
use Rattle.plant_memory.specs.declared.judge.Judged.{Judged}
use Rattle.plant_memory.specs.declared.refusal.UpdRefusal.{UpdRefusal}
use Rattle.plant_memory.specs.declared.refusal.UpdRefusal.TheVariants as r

-- the refusal is the verdict's; `NoMemory` may come at any verdict
abbrev pub IsRefusal : Verdict → UpdRefusal → Type 0
IsRefusal v (r.NoTable name) = v ≡ refuses (r.NoTable name)
IsRefusal v r.Length = v ≡ refuses r.Length
IsRefusal v (r.WrongType column) = v ≡ refuses (r.WrongType column)
IsRefusal v r.MoreThanOneDay = v ≡ refuses r.MoreThanOneDay
IsRefusal v r.Limit = v ≡ refuses r.Limit
IsRefusal v r.NoMemory = Unit {0}

-- a pass's update may be logged: the verdict accepts it, it is an update of one of the tables, and its date may have as many
-- rows
pub record Passes (limits : Limits) (by : ℕ) (date : ℤ) (rows : ℕ) (now : ℤ) (tables : List (List Kind)) (verdict : Verdict) (judged : Judged) : Type 0 where
  pub accepted : verdict ≡ accepts (roll_due judged.rolls by date ++ judged.update ∷ [])
  pub rolls_then : judged.rolls ≡ is_next_day date now
  pub own : by_of judged.update ≡ by
  pub update : IsUpdate tables judged.update
  pub bounded : (if judged.rolls then 0 else rows) + entry_rows judged.update ≤ limits.day_rows

-- the update that is ruled on, or its refusal
abbrev pub Rules : List Shape → Limits → ℕ → ℤ → ℕ → List ℕ → List Tree → ℤ → Result Judged UpdRefusal → Type 0
Rules schema limits by date rows name items now (Ok judged) =
    Passes limits by date rows now (map (λ shape. shape.kinds) schema) (ruling schema limits by date rows name items now) judged
Rules schema limits by date rows name items now (Err why) = IsRefusal (ruling schema limits by date rows name items now) why

-- the same for items, with their time, that are judged for a table
abbrev pub RulesItems : Limits → ℕ → ℤ → ℕ → ℤ → List ℕ → ℕ → List Kind → List Tree → Result Judged UpdRefusal → Type 0
RulesItems limits by date rows now name table kinds items (Ok judged) =
    (tables : List (List Kind)) → slice_get tables table ≡ Some kinds
    → Passes limits by date rows now tables (items_judged limits by date rows now name (table, kinds) items) judged
RulesItems limits by date rows now name table kinds items (Err why) = IsRefusal (items_judged limits by date rows now name (table, kinds) items) why

-- the columns that the items make, where they are within the limits for a date that already has `rows` rows, or the refusal
abbrev pub FitsLimits : Limits → ℕ → List ℕ → List Tree → Result (List Contents) UpdRefusal → Type 0
FitsLimits limits rows name items (Ok columns) = (columns ≡ columns_of items) × (is_beyond limits rows name items ≡ false)
FitsLimits limits rows name items (Err r.Limit) = is_beyond limits rows name items ≡ true
FitsLimits limits rows name items (Err r.NoMemory) = Unit {0}
FitsLimits limits rows name items (Err why) = ⊥

-- the index of the first table with this name, or none where no table has it
abbrev pub FindsTable : List Shape → List ℕ → Option ℕ → Type 0
FindsTable schema name None = table_from 0 name schema ≡ None
FindsTable schema name (Some i) =
    (shape : Shape) × (slice_get schema i ≡ Some shape) × (shape.table ≡ name) × (table_from 0 name schema ≡ Some (i, shape.kinds))
