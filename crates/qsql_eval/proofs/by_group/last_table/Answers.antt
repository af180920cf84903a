use Rattle.std.proofs.Common.{◌≡◌, ℕ, List, true, map, All, sym, ◌∙◌, subst}
use Rattle.std.specs.Prelude.{is_some}
use Rattle.qsql_values.specs.Frames.{Frame, kind_beside, column_in}
use Rattle.qsql_groups.specs.Groups.{last_rows, last_row, parts_of}
use Rattle.qsql_eval.proofs.GroupLemmas.{last_columns_are, last_table_of}
use Rattle.qsql_eval.proofs.by_group.last_table.Goals as goal

pub columns_named-requires : goal.columns_named-requires
columns_named-requires c =
    let g = c.args.grouping.now in
    let kinds = subst (λ (ns : List (List ℕ)). All (λ (name : List ℕ). is_some (kind_beside g.rows name) ≡ true) ns) (sym c.as_slice.ensures) c.requires.kinds in
    subst (λ (f : Frame). All (λ (name : List ℕ). is_some (kind_beside f name) ≡ true) c.as_slice.result.now) (sym c.rows_at-scope.ensures) kinds

pub invariant_of-result : goal.invariant_of-result
invariant_of-result c =
    let g = c.args.grouping.now in
    let places : c.deref.result.now ≡ map last_row (parts_of g) = c.deref.ensures.value ∙ c.in_ok-places.ensures.last in
    let made : c.in_ok-columns.columns ≡ map (column_in (last_rows g)) c.args.names = last_columns_are g c.args.names c.as_slice.result.now c.deref.result.now c.rows_at-scope.result c.in_ok-columns.columns places c.rows_at-scope.ensures c.as_slice.ensures c.in_ok-columns.ensures in
    record { in_shape = (last_table_of g c.args.names c.in_ok-places.places.items c.in_ok-columns.columns c.requires.some c.in_ok-places.ensures.within c.in_ok-places.ensures.last made).is }

pub returns-clause-columns : goal.returns-clause-columns
returns-clause-columns c =
    let g = c.args.grouping.now in
    let places : c.deref.result.now ≡ map last_row (parts_of g) = c.deref.ensures.value ∙ c.in_ok-places.ensures.last in
    last_columns_are g c.args.names c.as_slice.result.now c.deref.result.now c.rows_at-scope.result c.in_ok-columns.columns places c.rows_at-scope.ensures c.as_slice.ensures c.in_ok-columns.ensures

pub returns-clause-size : goal.returns-clause-size
returns-clause-size c =
    let g = c.args.grouping.now in
    let places : c.deref.result.now ≡ map last_row (parts_of g) = c.deref.ensures.value ∙ c.in_ok-places.ensures.last in
    let made : c.in_ok-columns.columns ≡ map (column_in (last_rows g)) c.args.names = last_columns_are g c.args.names c.as_slice.result.now c.deref.result.now c.rows_at-scope.result c.in_ok-columns.columns places c.rows_at-scope.ensures c.as_slice.ensures c.in_ok-columns.ensures in
    (last_table_of g c.args.names c.in_ok-places.places.items c.in_ok-columns.columns c.requires.some c.in_ok-places.ensures.within c.in_ok-places.ensures.last made).size
