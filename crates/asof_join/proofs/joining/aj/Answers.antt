use Rattle.std.proofs.Common.{◌≡◌, ◌++◌, List, ℕ, length, map, sym, ap, ◌∙◌, subst, All, Option}
use Rattle.std.specs.Prelude.{IsSome}
use Rattle.qsql_values.specs.Beside.{beside}
use Rattle.qsql_request.specs.Views.{aj_of}
use Rattle.asof_join.specs.Asof.{added_names, added_columns, column_named, column_as_of, keyed_rows, rows_as_of}
use Rattle.asof_join.specs.Heads.{IsKey}
use Rattle.asof_join.specs.Views.{grid_in}
use Rattle.asof_join.proofs.JoinLemmas.{joined_table, all_there}
use Rattle.asof_join.proofs.JudgeLemmas.{keys_are, some_keys}
use Rattle.asof_join.proofs.joining.aj.Goals as goal

pub found_rows-requires-clause-keys : goal.found_rows-requires-clause-keys
found_rows-requires-clause-keys c =
    let typed = c.args.typed.now in
    let left = c.args.left.now in
    let right = c.args.right.now in
    let are = keys_are (aj_of typed.query.now) typed.left_table.now typed.right_table.now (grid_in left) (grid_in right) c.requires.left c.requires.right left.in_shape.named right.in_shape.named typed.fit in
    subst (All (IsKey (grid_in left) (grid_in right))) (sym c.as_slice-keys.ensures) are

pub push_columns-requires : goal.push_columns-requires
push_columns-requires c =
    let typed = c.args.typed.now in
    let right = c.args.right.now in
    let keys = typed.query.now.keys in
    let added : c.as_slice-5.result.now ≡ added_names keys right.names =
    c.as_slice-5.ensures ∙ c.in_ok-added.ensures ∙ (λ i. added_names (c.as_slice-keys.ensures i) (c.as_slice-3.ensures i)) in
    subst (λ (ns : List (List ℕ)). All (λ (name : List ℕ). IsSome (beside name right.names right.columns)) ns) (sym added) (all_there keys right.names right.columns right.in_shape.named)

pub invariant_of-result : goal.invariant_of-result
invariant_of-result c =
    let typed = c.args.typed.now in
    let left = c.args.left.now in
    let right = c.args.right.now in
    let keys = typed.query.now.keys in
    let found = c.in_ok-found.found.items in
    let names : c.push_added_names.new.shown ≡ left.names ++ added_names keys right.names =
    c.in_ok-push_added_names.ensures ∙ (λ i. (c.in_ok-names.ensures ∙ c.as_slice.ensures) i ++ added_names (c.as_slice-keys.ensures i) (c.as_slice-2.ensures i)) in
    let added : c.as_slice-5.result.now ≡ added_names keys right.names =
    c.as_slice-5.ensures ∙ c.in_ok-added.ensures ∙ (λ i. added_names (c.as_slice-keys.ensures i) (c.as_slice-3.ensures i)) in
    let columns : c.push_columns.new.shown ≡ left.columns ++ added_columns keys (grid_in right) found =
    c.in_ok-push_columns.ensures
    ∙ (λ i. (c.in_ok-columns.ensures ∙ c.as_slice-4.ensures) i ++ map (λ (name : List ℕ). column_as_of (c.deref.ensures.value i) (column_named (grid_in right) name)) (added i)) in
    record { in_shape = joined_table left.names c.push_added_names.new.shown keys left.columns c.push_columns.new.shown (grid_in right) found left.in_shape c.in_ok-found.ensures.size names columns }

pub returns : goal.returns
returns c =
    let typed = c.args.typed.now in
    let left = c.args.left.now in
    let right = c.args.right.now in
    let keys = typed.query.now.keys in
    let found = c.in_ok-found.found.items in
    let names : c.push_added_names.new.shown ≡ left.names ++ added_names keys right.names =
    c.in_ok-push_added_names.ensures ∙ (λ i. (c.in_ok-names.ensures ∙ c.as_slice.ensures) i ++ added_names (c.as_slice-keys.ensures i) (c.as_slice-2.ensures i)) in
    let added : c.as_slice-5.result.now ≡ added_names keys right.names =
    c.as_slice-5.ensures ∙ c.in_ok-added.ensures ∙ (λ i. added_names (c.as_slice-keys.ensures i) (c.as_slice-3.ensures i)) in
    let columns : c.push_columns.new.shown ≡ left.columns ++ added_columns keys (grid_in right) found =
    c.in_ok-push_columns.ensures
    ∙ (λ i. (c.in_ok-columns.ensures ∙ c.as_slice-4.ensures) i ++ map (λ (name : List ℕ). column_as_of (c.deref.ensures.value i) (column_named (grid_in right) name)) (added i)) in
    let rows : found ≡ rows_as_of (keyed_rows keys (grid_in left)) (keyed_rows keys (grid_in right)) =
    c.in_ok-found.ensures.rows ∙ (λ i. rows_as_of (keyed_rows (c.as_slice-keys.ensures i) (grid_in left)) (keyed_rows (c.as_slice-keys.ensures i) (grid_in right))) in
    let all : c.push_columns.new.shown ≡ left.columns ++ added_columns keys (grid_in right) (rows_as_of (keyed_rows keys (grid_in left)) (keyed_rows keys (grid_in right))) =
    columns ∙ ap (λ (f : List (Option ℕ)). left.columns ++ added_columns keys (grid_in right) f) rows in
    λ i. record { names = names i; columns = all i }
