use Rattle.std.proofs.Common.{◌≡◌, ℕ, List, None, drop, unwrap_or}
use Rattle.std.specs.List.{list_all}
use Rattle.qsql_values.specs.Beside.{beside}
use Rattle.qsql_eval.specs.Views.{is_kind}
use Rattle.asof_join.proofs.checking.have_one_kind.Given as goal

abbrev pub invariant-loop-key : goal.invariant-loop-key
invariant-loop-key l =
    list_all (λ (key : List ℕ). is_kind (unwrap_or (beside key l.left.names l.left.kinds.items) None) (unwrap_or (beside key l.right.names l.right.kinds.items) None)) (drop l.key-index l.keys)
    ≡ list_all (λ (key : List ℕ). is_kind (unwrap_or (beside key l.left.names l.left.kinds.items) None) (unwrap_or (beside key l.right.names l.right.kinds.items) None)) l.keys
