use Rattle.std.proofs.Common.{ap}
use Rattle.std.specs.List.{list_any}
use Rattle.q_values.specs.Column.{contents}
use Rattle.q_values.specs.declared.column.Column.{Column}
use Rattle.tick_log.specs.Chunk.{is_long}
use Rattle.tick_log.proofs.Symbols.{none_long, any_long, are_symbols}
use Rattle.tick_log.proofs.columns.has_long.Goals as goal

pub returns-in-Booleans : goal.returns-in-Booleans
returns-in-Booleans c = none_long _ _ c.column.ensures (ap are_symbols c.in-Booleans.is)

pub returns-in-Bytes : goal.returns-in-Bytes
returns-in-Bytes c = none_long _ _ c.column.ensures (ap are_symbols c.in-Bytes.is)

pub returns-in-Shorts : goal.returns-in-Shorts
returns-in-Shorts c = none_long _ _ c.column.ensures (ap are_symbols c.in-Shorts.is)

pub returns-in-Integers : goal.returns-in-Integers
returns-in-Integers c = none_long _ _ c.column.ensures (ap are_symbols c.in-Integers.is)

pub returns-in-Longs : goal.returns-in-Longs
returns-in-Longs c = none_long _ _ c.column.ensures (ap are_symbols c.in-Longs.is)

pub returns-in-Symbols : goal.returns-in-Symbols
returns-in-Symbols c =
    any_long c.column.result.now c.args.column.now c.in-Symbols.symbols c.has_long_symbol.result c.column.ensures
    (ap (λ (x : Column). list_any is_long (contents x).atoms) c.in-Symbols.is) c.has_long_symbol.ensures
