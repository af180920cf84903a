use Rattle.std.proofs.Common.{◌≡◌, ◌<◌, ℕ, List, All, length, map, sym, ap, ◌∙◌, subst, arith}
use Rattle.q_values.specs.Contents.{Contents}
use Rattle.q_values.specs.Table.{rows_of}
use Rattle.q_keys.specs.Keys.{key_rows}
use Rattle.asof_join.specs.Asof.{column_named}
use Rattle.asof_join.specs.Heads.{both_atoms}
use Rattle.asof_join.specs.Views.{grid_in}
use Rattle.asof_join.proofs.KeyLemmas.{HasBothSizes, columns_even, columns_count, columns_rows, heads_are}
use Rattle.asof_join.proofs.heads.Heads.of.Goals as goal

pub of-requires-clause-even : goal.of-requires-clause-even
of-requires-clause-even c =
    let left = c.args.left.now in
    let right = c.args.right.now in
    let names = c.args.names.now in
    let even : All (HasBothSizes (grid_in left) (grid_in right) (rows_of left.columns) (rows_of right.columns)) names =
    λ i d low. record { in_left = (c.requires i d low).left_size; in_right = (c.requires i d low).right_size } in
    let atoms : map (λ (x : Contents). x.atoms) c.deref.result.now ≡ map (both_atoms (grid_in left) (grid_in right)) names =
    ap (map (λ (x : Contents). x.atoms)) c.deref.ensures.value ∙ c.in_ok-columns.ensures in
    columns_even (grid_in left) (grid_in right) (rows_of left.columns) (rows_of right.columns) names c.deref.result.now even atoms

pub returns : goal.returns
returns c =
    let left = c.args.left.now in
    let right = c.args.right.now in
    let names = c.args.names.now in
    let columns = c.deref.result.now in
    let even : All (HasBothSizes (grid_in left) (grid_in right) (rows_of left.columns) (rows_of right.columns)) names =
    λ i d low. record { in_left = (c.requires i d low).left_size; in_right = (c.requires i d low).right_size } in
    let atoms : map (λ (x : Contents). x.atoms) columns ≡ map (both_atoms (grid_in left) (grid_in right)) names =
    ap (map (λ (x : Contents). x.atoms)) c.deref.ensures.value ∙ c.in_ok-columns.ensures in
    let some : 0 < length columns = (let count = columns_count (grid_in left) (grid_in right) (rows_of left.columns) (rows_of right.columns) names columns even atoms in
    let empty = c.is_empty.ensures in let test = c.if-is_empty.false in grind arith) in
    let rows = columns_rows (grid_in left) (grid_in right) (rows_of left.columns) (rows_of right.columns) names columns even atoms some in
    let within : All (λ (x : ℕ). x < length c.in_ok-groups.groups.firsts) c.in_ok-groups.groups.codes =
    subst (λ (l : List ℕ). All (λ (x : ℕ). x < length c.in_ok-groups.groups.firsts) l) c.codes-within.ensures.codes c.codes-within.ensures.within in
    heads_are (key_rows (rows_of left.columns) (map (column_named (grid_in left)) names)) (key_rows (rows_of right.columns) (map (column_named (grid_in right)) names))
    (key_rows (rows_of columns) columns) c.in_ok-groups.groups.codes (length c.in_ok-groups.groups.firsts) rows c.in_ok-groups.ensures.codes within
