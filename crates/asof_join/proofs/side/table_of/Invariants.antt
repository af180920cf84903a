use Rattle.std.proofs.Common.{◌≡◌, drop}
use Rattle.qsql_eval.specs.Judgement.{table_named}
use Rattle.asof_join.proofs.side.table_of.Given as goal

abbrev pub invariant-loop-i : goal.invariant-loop-i
invariant-loop-i l = table_named l.name (drop l.i l.schema) ≡ table_named l.name l.schema
