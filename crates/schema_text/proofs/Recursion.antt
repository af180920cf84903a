-- The recursions over columns and tables, at a number that is not 0.
use Rattle.std.proofs.Common.{◌≡◌, ℕ, zero, suc, ◌+◌, ◌-◌, ◌<◌, List, refl, arith, cond, slice_get, Err}
use Rattle.day_rows.specs.Schema.{by_name}
use Rattle.day_rows.specs.Sorted.{inserted}
use Rattle.day_rows.specs.declared.schema.Shape.{Shape}
use Rattle.schema_text.specs.Reading.{columns_at, column_at, closed_at, tables_at, table_at, some_tables, ◌>>=◌}
use Rattle.schema_text.specs.Tokens.{part, is_sign, is_end}
use Rattle.schema_text.specs.declared.refusal.SchemaRefusal.TheVariants.{Limit}

pub columns_at-more : (left : ℕ) (shape : Shape) (text : List ℕ) (at : ℕ) → 0 < left
    → columns_at left shape text at ≡ (column_at shape text at >>= (λ column. cond (is_sign 59 (slice_get text (part text column.1))) (columns_at (left - 1) column.0 text (part text column.1 + 1)) (closed_at column.0 text column.1)))
unfolding columns_at
columns_at-more zero shape text at some = absurd (omega (arith, some))
columns_at-more (suc left) shape text at some = let less : suc left - 1 ≡ left = omega arith in rw less refl

pub tables_at-more : (left : ℕ) (tables : List Shape) (text : List ℕ) (at : ℕ) → 0 < left
    → tables_at left tables text at ≡ cond (is_end (slice_get text (part text at))) (some_tables tables text) (table_at tables text at >>= (λ table. tables_at (left - 1) (inserted by_name table.0 tables) text table.1))
unfolding tables_at
tables_at-more zero tables text at some = absurd (omega (arith, some))
tables_at-more (suc left) tables text at some = let less : suc left - 1 ≡ left = omega arith in rw less refl

pub tables_at-none : (tables : List Shape) (text : List ℕ) (at : ℕ) → tables_at 0 tables text at ≡ Err Limit
unfolding tables_at
tables_at-none tables text at = refl
