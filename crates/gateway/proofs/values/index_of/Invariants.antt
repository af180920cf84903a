use Rattle.std.proofs.Common.{◌≡◌, ◌+◌, drop}
use Rattle.gateway.specs.Answer.{table_index}
use Rattle.gateway.proofs.values.index_of.Given as goal

abbrev pub invariant-loop-i : goal.invariant-loop-i
invariant-loop-i l = table_index l.name (drop l.i l.schema) + l.i ≡ table_index l.name l.schema
