use Rattle.std.proofs.Common.{◌≡◌, drop, map}
use Rattle.qsql_values.specs.Kinds.{column_kind}
use Rattle.qsql_eval.specs.Judgement.{first_unknown}
use Rattle.qsql_eval.proofs.checking.unknown_among.Given as goal

abbrev pub invariant-loop-name : goal.invariant-loop-name
invariant-loop-name l = first_unknown (column_kind l.table) (map (λ n. n.now) (drop l.name-index l.names)) ≡ first_unknown (column_kind l.table) (map (λ n. n.now) l.names)
