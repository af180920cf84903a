use Rattle.std.proofs.Common.{◌≡◌, ℕ, List, map, not, take}
use Rattle.std.specs.List.{filter, list_any}
use Rattle.std.specs.Str.{bytes_eq}
use Rattle.qsql_request.specs.Unbuilt.{column_name}
use Rattle.qsql_request.specs.Views.{column_form}
use Rattle.qsql_eval.proofs.by_group.names_left.Given as goal

abbrev pub invariant-loop-name : goal.invariant-loop-name
invariant-loop-name l = l.left ≡ filter (λ (name : List ℕ). not (list_any (bytes_eq name) (map column_name (map column_form l.by)))) (take l.name-index l.names)
