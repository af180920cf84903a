use Rattle.std.proofs.Common.{◌≡◌, ℕ, ◌<◌, List, true, length, map, All, sym, ◌∙◌, subst}
use Rattle.std.specs.Prelude.{is_some, IfOk}
use Rattle.qsql_values.specs.Frames.{column_in, kind_beside}
use Rattle.qsql_groups.specs.Groups.{last_rows}
use Rattle.qsql_eval.specs.Judgement.{all_columns}
use Rattle.qsql_eval.proofs.GroupLemmas.{left_names, left_kinds}
use Rattle.qsql_eval.proofs.by_group.left_table.Goals as goal

pub last_table-requires-clause-some : goal.last_table-requires-clause-some
last_table-requires-clause-some c =
    let names = left_names (all_columns c.args.table.now) c.as_slice.result.now c.in_ok-names.names c.args.query.now c.as_slice-by.result.now c.in_ok-names.ensures c.as_slice-by.ensures (c.as_slice.ensures ∙ c.in_ok-all.ensures) in
    subst (λ (ns : List (List ℕ)). 0 < length ns) (sym names) (c.requires.query.left c.requires.select c.requires.none)

pub last_table-requires-clause-kinds : goal.last_table-requires-clause-kinds
last_table-requires-clause-kinds c =
    let frame = c.args.grouping.now.rows in
    let names = left_names (all_columns c.args.table.now) c.as_slice.result.now c.in_ok-names.names c.args.query.now c.as_slice-by.result.now c.in_ok-names.ensures c.as_slice-by.ensures (c.as_slice.ensures ∙ c.in_ok-all.ensures) in
    let kinds = left_kinds frame (all_columns c.args.table.now) c.args.query.now (c.requires.query.every c.requires.select c.requires.none) in
    subst (λ (ns : List (List ℕ)). All (λ (name : List ℕ). is_some (kind_beside frame name) ≡ true) ns) (sym names) kinds

pub returns-clause-names : goal.returns-clause-names
returns-clause-names c =
    let names = left_names (all_columns c.args.table.now) c.as_slice.result.now c.in_ok-names.names c.args.query.now c.as_slice-by.result.now c.in_ok-names.ensures c.as_slice-by.ensures (c.as_slice.ensures ∙ c.in_ok-all.ensures) in
    subst (λ (ns : List (List ℕ)). IfOk c.last_table.result (λ t. t.names ≡ ns)) names c.last_table.ensures.names

pub returns-clause-columns : goal.returns-clause-columns
returns-clause-columns c =
    let g = c.args.grouping.now in
    let names = left_names (all_columns c.args.table.now) c.as_slice.result.now c.in_ok-names.names c.args.query.now c.as_slice-by.result.now c.in_ok-names.ensures c.as_slice-by.ensures (c.as_slice.ensures ∙ c.in_ok-all.ensures) in
    subst (λ (ns : List (List ℕ)). IfOk c.last_table.result (λ t. t.columns ≡ map (column_in (last_rows g)) ns)) names c.last_table.ensures.columns
