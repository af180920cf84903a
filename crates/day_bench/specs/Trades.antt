-- The tables of the day that is timed.
use Rattle.std.specs.Prelude.{◌≡◌, map}
use Rattle.day_rows.specs.Day.{Day}
use Rattle.schema_text.specs.BuiltIn.{built_in_tables}

-- the day has the tables of the built-in schema
abbrev pub HasTrades : Day → Type 0
HasTrades day = day.kinds ≡ map (λ shape. shape.kinds) built_in_tables
