use Rattle.std.proofs.Common.{◌≡◌, drop}
use Rattle.qsql_values.specs.Beside.{beside}
use Rattle.qsql_values.proofs.beside.item_beside.Given as goal

abbrev pub invariant-loop-i : goal.invariant-loop-i
invariant-loop-i g l = beside l.name (drop l.i l.names) (drop l.i l.items) ≡ beside l.name l.names l.items
