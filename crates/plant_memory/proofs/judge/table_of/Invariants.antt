use Rattle.std.proofs.Common.{◌≡◌, drop}
use Rattle.plant_memory.specs.Verdict.{table_from}
use Rattle.plant_memory.proofs.judge.table_of.Given as goal

abbrev pub invariant-loop-i : goal.invariant-loop-i
invariant-loop-i l = table_from 0 l.name l.schema ≡ table_from l.i l.name (drop l.i l.schema)
