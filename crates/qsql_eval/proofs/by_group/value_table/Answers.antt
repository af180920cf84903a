use Rattle.std.proofs.Common.{◌≡◌, ◌<◌, List, length, map, All, sym, ap, ◌∙◌, subst}
use Rattle.std.specs.Prelude.{IfOk}
use Rattle.q_values.specs.Tree.{Grid}
use Rattle.qsql_request.specs.Views.{form, column_form}
use Rattle.qsql_request.specs.declared.request.Col.{Col}
use Rattle.qsql_eval.specs.Judgement.{all_columns}
use Rattle.qsql_eval.specs.Meaning.{column_grid}
use Rattle.qsql_groups.specs.Ready.{IsValue}
use Rattle.qsql_eval.proofs.GroupLemmas.{no_columns, some_columns, grid_of_last, grid_of_columns}
use Rattle.qsql_eval.proofs.by_group.value_table.Goals as goal

pub left_table-requires-clause-none : goal.left_table-requires-clause-none
left_table-requires-clause-none c = no_columns c.args.query.now.columns (sym c.is_empty.ensures ∙ c.if-is_empty.true)

pub column_table-requires-clause-some : goal.column_table-requires-clause-some
column_table-requires-clause-some c = subst (λ (cs : List Col). 0 < length cs) (sym c.as_slice.ensures) (some_columns c.args.query.now.columns (sym c.is_empty.ensures ∙ c.if-is_empty.false))

pub column_table-requires-clause-values : goal.column_table-requires-clause-values
column_table-requires-clause-values c = subst (λ (cs : List Col). All (λ (x : Col). IsValue c.args.grouping.now.rows (form x.expr)) cs) (sym c.as_slice.ensures) c.requires.query.values

pub returns-then-is_empty-clause-names : goal.returns-then-is_empty-clause-names
returns-then-is_empty-clause-names c =
    let grid = grid_of_last (all_columns c.args.table.now) c.args.query.now c.args.grouping.now (no_columns c.args.query.now.columns (sym c.is_empty.ensures ∙ c.if-is_empty.true)) in
    subst (λ (h : Grid). IfOk c.left_table.result (λ t. t.names ≡ h.names)) (sym grid) c.left_table.ensures.names

pub returns-then-is_empty-clause-columns : goal.returns-then-is_empty-clause-columns
returns-then-is_empty-clause-columns c =
    let grid = grid_of_last (all_columns c.args.table.now) c.args.query.now c.args.grouping.now (no_columns c.args.query.now.columns (sym c.is_empty.ensures ∙ c.if-is_empty.true)) in
    subst (λ (h : Grid). IfOk c.left_table.result (λ t. t.columns ≡ h.columns)) (sym grid) c.left_table.ensures.columns

pub returns-else-is_empty-clause-names : goal.returns-else-is_empty-clause-names
returns-else-is_empty-clause-names c =
    let q = c.args.query.now in
    let grid = grid_of_columns (all_columns c.args.table.now) q c.args.grouping.now (some_columns q.columns (sym c.is_empty.ensures ∙ c.if-is_empty.false)) in
    let shown = ap (λ (cs : List Col). column_grid (map column_form cs) c.args.grouping.now) c.as_slice.ensures ∙ sym grid in
    subst (λ (h : Grid). IfOk c.column_table.result (λ t. t.names ≡ h.names)) shown c.column_table.ensures.names

pub returns-else-is_empty-clause-columns : goal.returns-else-is_empty-clause-columns
returns-else-is_empty-clause-columns c =
    let q = c.args.query.now in
    let grid = grid_of_columns (all_columns c.args.table.now) q c.args.grouping.now (some_columns q.columns (sym c.is_empty.ensures ∙ c.if-is_empty.false)) in
    let shown = ap (λ (cs : List Col). column_grid (map column_form cs) c.args.grouping.now) c.as_slice.ensures ∙ sym grid in
    subst (λ (h : Grid). IfOk c.column_table.result (λ t. t.columns ≡ h.columns)) shown c.column_table.ensures.columns
