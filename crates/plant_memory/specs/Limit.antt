-- The limits of an update.
use Rattle.std.specs.Prelude.{◌≡◌, ◌<◌, ℕ, ◌+◌, Bool, ◌||◌, List, length, nat_lt, Some, slice_get}
use Rattle.day_rows.specs.declared.schema.Shape.{Shape}
use Rattle.q_values.specs.Tree.{Tree}
use Rattle.q_values.specs.declared.kind.Kind.{Kind}
use Rattle.q_values.specs.declared.limits.Limits.{Limits}
use Rattle.tick_log.specs.Chunk.{IsLoggable, chunk_bytes, no_pass}
use Rattle.plant_memory.specs.Items.{has_long_symbol, row_count, columns_of}
use Rattle.plant_memory.specs.declared.judge.Judged.{Judged}

-- a symbol is too long, or a date that already has `rows` rows would have too many
abbrev pub holds_too_much : Limits → ℕ → List Tree → Bool
holds_too_much limits rows items = has_long_symbol limits.symbol items || nat_lt limits.day_rows (rows + row_count items)

-- the log record of an update of this table would be too long; its length is the same for each pass
abbrev pub is_long_record : Limits → List ℕ → List Tree → Bool
is_long_record limits name items = nat_lt limits.chunk (length (chunk_bytes 0 name (columns_of items)))

-- an update of this table, of a date that already has `rows` rows, is beyond a limit
abbrev pub is_beyond : Limits → ℕ → List ℕ → List Tree → Bool
is_beyond limits rows name items = holds_too_much limits rows items || is_long_record limits name items

-- a log can hold the update that may be logged, where its table has this name and these kinds, and its pass a number
abbrev pub HasLogRecord : ℕ → List ℕ → ℕ → List Kind → Judged → Type 0
HasLogRecord by name table kinds judged =
    (schema : List Shape) (shape : Shape) → slice_get schema table ≡ Some shape → shape.table ≡ name → shape.kinds ≡ kinds → by < no_pass
    → IsLoggable schema judged.update
