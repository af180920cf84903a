use Rattle.std.proofs.Common.{ap}
use Rattle.plant_memory.proofs.ItemsLemmas.{none_long, are_symbols}
use Rattle.plant_memory.proofs.items.is_long_vector.Goals as goal

pub returns-in-Booleans : goal.returns-in-Booleans
returns-in-Booleans c = none_long _ _ _ c.column.ensures (ap are_symbols c.in-Booleans.is)

pub returns-in-Bytes : goal.returns-in-Bytes
returns-in-Bytes c = none_long _ _ _ c.column.ensures (ap are_symbols c.in-Bytes.is)

pub returns-in-Shorts : goal.returns-in-Shorts
returns-in-Shorts c = none_long _ _ _ c.column.ensures (ap are_symbols c.in-Shorts.is)

pub returns-in-Integers : goal.returns-in-Integers
returns-in-Integers c = none_long _ _ _ c.column.ensures (ap are_symbols c.in-Integers.is)

pub returns-in-Longs : goal.returns-in-Longs
returns-in-Longs c = none_long _ _ _ c.column.ensures (ap are_symbols c.in-Longs.is)
