-- The rows of a table on some of the dates, date by date.
use Rattle.std.specs.Prelude.{◌<◌, ℕ, ℤ, List, ◌∷◌, length, All}
use Rattle.std.specs.List.{filter, flat_map}
use Rattle.q_values.specs.Contents.{Contents}
use Rattle.day_rows.specs.Rows.{Row}
use Rattle.day_rows.specs.declared.entry.Entry.{Entry}
use Rattle.day_rows.specs.declared.schema.Shape.{Shape}
use Rattle.plant_memory.specs.Chronicle.{dates_of, date_at, rows_at}
use Rattle.qsql_request.specs.Forms.{Form}
use Rattle.qsql_dates.specs.Dates.{keeps}
use Rattle.gateway.specs.TableRows.{dates_of_rows, numbers_on, columns_from, every_date}

-- they are indices of dates
abbrev pub AreDates : ℤ → List Entry → List ℕ → Type 0
AreDates first entries dates = All (λ (k : ℕ). k < length (dates_of first entries)) dates

-- the indices of the dates that phrases keep
abbrev pub kept_dates : List Form → ℤ → List Entry → List ℕ
kept_dates phrases first entries = filter (λ (k : ℕ). keeps phrases (date_at first entries k)) (every_date first entries)

-- the rows of a table on the dates with these indices
abbrev pub rows_on : List ℕ → ℤ → List Entry → ℕ → List Row
rows_on dates first entries table = flat_map (λ (k : ℕ). rows_at first entries k table) dates

-- the columns of these rows: `date`, `i`, and those of the table
abbrev pub columns_on : List ℕ → ℤ → List Entry → ℕ → Shape → List Contents
columns_on dates first entries index table =
    dates_of_rows (rows_on dates first entries index)
    ∷ numbers_on dates first entries index
    ∷ columns_from 0 table.kinds (rows_on dates first entries index)
