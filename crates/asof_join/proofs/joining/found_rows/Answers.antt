use Rattle.std.proofs.Common.{◌≡◌, ◌+◌, ◌-◌, ◌<◌, ℕ, List, [], Option, length, take, drop, sym, ap, ◌∙◌, arith}
use Rattle.std.proofs.lemmas.List.{get_or_default}
use Rattle.std.proofs.lemmas.Result.{IfOk-weaker}
use Rattle.std.specs.Global.{Vec}
use Rattle.q_values.specs.Contents.{Contents}
use Rattle.asof_join.specs.Asof.{keyed_rows, last_name, column_named, rows_as_of}
use Rattle.asof_join.specs.Heads.{AreHeads}
use Rattle.asof_join.specs.Lasts.{AreNumbers}
use Rattle.asof_join.specs.Lines.{AreFound}
use Rattle.asof_join.specs.Views.{grid_in}
use Rattle.asof_join.proofs.AsofLemmas.{rows_found}
use Rattle.asof_join.proofs.JoinLemmas.{left_count, right_count, left_lasts, right_lasts, numbers_by, heads_by}
use Rattle.asof_join.proofs.joining.found_rows.Goals as goal

pub numbered_rows-requires-clause-size : goal.numbered_rows-requires-clause-size
numbered_rows-requires-clause-size c =
    let keys = c.args.keys.now in
    let left = grid_in c.args.left.now in
    let right = grid_in c.args.right.now in
    let some = c.requires.some in
    let name_is : c.bytes-name.result.now ≡ last_name keys = c.bytes-name.ensures.value ∙ c.index-keys-last.is ∙ get_or_default keys (length keys - 1) c.index-keys-last.result [] (omega arith) in
    let first : c.column_named.result.now ≡ column_named left (last_name keys) = c.column_named.ensures ∙ ap (column_named left) name_is in
    let next : c.column_named-2.result.now ≡ column_named right (last_name keys) = c.column_named-2.ensures ∙ ap (column_named right) name_is in
    let lasts : AreNumbers (keyed_rows keys left).lasts (keyed_rows keys right).lasts c.as_slice.result.now c.as_slice-2.result.now =
    numbers_by _ _ _ _ _ _ _ _ (ap (λ (v : Contents). v.atoms) first) (ap (λ (v : Contents). v.atoms) next) (sym c.as_slice.ensures) (sym c.as_slice-2.ensures) c.in_ok-lasts.ensures in
    let heads : AreHeads (keyed_rows keys left).heads (keyed_rows keys right).heads c.codes.result.now c.groups.result =
    heads_by _ _ _ _ _ _ (sym c.codes.ensures) (sym c.groups.ensures) c.in_ok-heads.ensures in
    let left_heads = left_count keys left right some c.requires.keys in
    let right_heads = right_count keys left right some c.requires.keys in
    let left_size = left_lasts keys left right some c.requires.keys in
    let right_size = right_lasts keys left right some c.requires.keys in
    omega (arith, heads.size, lasts.left_size, lasts.right_size, left_heads, right_heads, left_size, right_size)

pub returns-clause-rows : goal.returns-clause-rows
returns-clause-rows c =
    let keys = c.args.keys.now in
    let left = grid_in c.args.left.now in
    let right = grid_in c.args.right.now in
    let some = c.requires.some in
    let name_is : c.bytes-name.result.now ≡ last_name keys = c.bytes-name.ensures.value ∙ c.index-keys-last.is ∙ get_or_default keys (length keys - 1) c.index-keys-last.result [] (omega arith) in
    let first : c.column_named.result.now ≡ column_named left (last_name keys) = c.column_named.ensures ∙ ap (column_named left) name_is in
    let next : c.column_named-2.result.now ≡ column_named right (last_name keys) = c.column_named-2.ensures ∙ ap (column_named right) name_is in
    let lasts : AreNumbers (keyed_rows keys left).lasts (keyed_rows keys right).lasts c.as_slice.result.now c.as_slice-2.result.now =
    numbers_by _ _ _ _ _ _ _ _ (ap (λ (v : Contents). v.atoms) first) (ap (λ (v : Contents). v.atoms) next) (sym c.as_slice.ensures) (sym c.as_slice-2.ensures) c.in_ok-lasts.ensures in
    let heads : AreHeads (keyed_rows keys left).heads (keyed_rows keys right).heads c.codes.result.now c.groups.result =
    heads_by _ _ _ _ _ _ (sym c.codes.ensures) (sym c.groups.ensures) c.in_ok-heads.ensures in
    let left_heads = left_count keys left right some c.requires.keys in
    let right_heads = right_count keys left right some c.requires.keys in
    let left_size = left_lasts keys left right some c.requires.keys in
    let right_size = right_lasts keys left right some c.requires.keys in
    IfOk-weaker c.numbered_rows.result
    (λ v. AreFound (record { codes = drop (length c.as_slice.result.now) c.codes.result.now; numbers = c.as_slice-2.result.now })
    (record { codes = take (length c.as_slice.result.now) c.codes.result.now; numbers = c.as_slice.result.now }) v.items)
    (λ v. v.items ≡ rows_as_of (keyed_rows keys left) (keyed_rows keys right))
    (λ v h. rows_found (keyed_rows keys left) (keyed_rows keys right) c.codes.result.now c.groups.result c.as_slice.result.now c.as_slice-2.result.now heads lasts
    (left_heads ∙ sym left_size) (right_heads ∙ sym right_size) v.items h)
    c.numbered_rows.ensures
