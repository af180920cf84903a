use Rattle.std.proofs.Common.{◌≡◌, ℕ, List, map, drop}
use Rattle.std.specs.List.{list_any, list_all}
use Rattle.std.specs.Str.{bytes_eq}
use Rattle.qsql_request.specs.Views.{column_form}
use Rattle.qsql_request.specs.Unbuilt.{column_name}
use Rattle.qsql_eval.proofs.checking.are_columns_named.Given as goal

abbrev pub invariant-loop-name : goal.invariant-loop-name
invariant-loop-name l = list_all (λ (name : List ℕ). list_any (bytes_eq name) (map column_name (map column_form l.columns))) (drop l.name-index l.names) ≡ list_all (λ (name : List ℕ). list_any (bytes_eq name) (map column_name (map column_form l.columns))) l.names
