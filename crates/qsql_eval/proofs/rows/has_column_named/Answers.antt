use Rattle.std.proofs.Common.{ℕ, List, Option, map, ap, ◌∙◌}
use Rattle.q_values.specs.Contents.{Contents}
use Rattle.q_values.specs.declared.kind.Kind.{Kind}
use Rattle.qsql_values.specs.Beside.{beside}
use Rattle.qsql_values.specs.Kinds.{column_kind}
use Rattle.qsql_eval.specs.Views.{is_kind}
use Rattle.qsql_eval.proofs.rows.has_column_named.Goals as goal

pub returns : goal.returns
returns c =
    let name = c.args.name.now in
    let rows = c.args.rows.now in
    let there = c.kind_named-there.ensures
    ∙ ap (λ (ns : List (List ℕ)). beside name ns (map (λ (d : Contents). d.kind) c.as_slice-2.result.now)) c.as_slice.ensures
    ∙ ap (λ (cs : List Contents). beside name rows.names (map (λ (d : Contents). d.kind) cs)) c.as_slice-2.ensures in
    c.is_wanted.ensures
    ∙ ap (λ (o : Option Kind). is_kind o c.kind_named-there.result) c.kind_of_column.ensures
    ∙ ap (is_kind (column_kind c.args.table.now name)) there
