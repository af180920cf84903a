use Rattle.std.proofs.Common.{ℕ, ◌<◌, List, length, arith, subst, sym}
use Rattle.qsql_eval.proofs.ReadyLemmas.{every_table}
use Rattle.qsql_eval.proofs.selecting.every_column.Goals as goal

pub invariant_of-result : goal.invariant_of-result
invariant_of-result c =
    let some : 0 < length c.in_ok-names.names = subst (λ (ns : List (List ℕ)). 0 < length ns) (sym c.in_ok-names.ensures) (omega arith) in
    record { in_shape = every_table c.args.scope.now c.args.first.now c.in_ok-names.names c.as_slice.result.now c.in_ok-columns.columns some c.as_slice.ensures c.in_ok-columns.ensures }
