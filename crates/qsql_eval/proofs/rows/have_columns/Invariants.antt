use Rattle.std.proofs.Common.{◌≡◌, drop, map}
use Rattle.std.specs.List.{list_all}
use Rattle.qsql_values.specs.Frames.{frame_of, kind_beside}
use Rattle.qsql_eval.specs.Views.{has_column}
use Rattle.qsql_eval.proofs.rows.have_columns.Given as goal

abbrev pub invariant-loop-name : goal.invariant-loop-name
invariant-loop-name l = list_all (has_column l.table (kind_beside (frame_of l.rows.names l.rows.columns))) (map (λ n. n.now) (drop l.name-index l.names)) ≡ list_all (has_column l.table (kind_beside (frame_of l.rows.names l.rows.columns))) (map (λ n. n.now) l.names)
