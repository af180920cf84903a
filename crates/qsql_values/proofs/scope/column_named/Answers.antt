use Rattle.std.proofs.Common.{◌≡◌, true, map}
use Rattle.std.specs.Prelude.{is_some}
use Rattle.q_values.specs.Contents.{Contents}
use Rattle.qsql_values.specs.Beside.{beside}
use Rattle.qsql_values.proofs.FrameLemmas.{never-missing}
use Rattle.qsql_values.proofs.scope.column_named.Goals as goal

pub unreachable-requires : goal.unreachable-requires
unreachable-requires c =
    let names = c.args.names.now in
    let columns = c.args.columns.now in
    let some : is_some (beside c.args.name.now names (map (λ (d : Contents). d.kind) columns)) ≡ true = c.requires.some in
    never-missing names columns c.args.name.now c.item_beside.result c.item_beside.ensures c.in-None.is some
