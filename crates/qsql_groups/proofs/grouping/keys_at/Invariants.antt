use Rattle.std.proofs.Common.{◌≡◌, map, take}
use Rattle.qsql_values.specs.Places.{column_at}
use Rattle.qsql_groups.proofs.grouping.keys_at.Given as goal

abbrev pub invariant-loop-key : goal.invariant-loop-key
invariant-loop-key l = l.gathered.items ≡ map (column_at l.firsts) (map (λ c. c.now) (take l.key-index l.keys))
