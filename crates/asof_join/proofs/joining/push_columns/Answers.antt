use Rattle.std.proofs.Common.{◌≡◌, ◌+◌, ◌<◌, ℕ, List, [], ◌∷◌, ◌++◌, length, get_or, take, map, sym, ap, ◌∙◌, arith}
use Rattle.std.proofs.lemmas.List.{take_more, get_or_default, map-append, append_assoc}
use Rattle.q_values.specs.Contents.{Contents}
use Rattle.asof_join.specs.Asof.{column_as_of, column_named}
use Rattle.asof_join.specs.Views.{grid_in}
use Rattle.asof_join.proofs.joining.push_columns.Goals as goal

pub loop-name-preserved : goal.loop-name-preserved
loop-name-preserved c =
    let names = c.args.names.now in
    let right = grid_in c.args.right.now in
    let found = c.args.found.now in
    let i = c.loop-name.name-index in
    let low : i < length names = omega (arith, c.loop-name-test.true) in
    let name : c.bytes.result.now ≡ get_or names i [] = c.bytes.ensures.value ∙ c.name-item.is ∙ get_or_default names i c.name-item.result [] low in
    let item : c.in_ok-items_as_of.field-0 ≡ column_as_of found (column_named right (get_or names i [])) =
    c.in_ok-items_as_of.ensures ∙ ap (column_as_of found) (c.column_named-column.ensures ∙ ap (column_named right) name) in
    let all : map (λ (n : List ℕ). column_as_of found (column_named right n)) (take (i + 1) names) ≡ map (λ (n : List ℕ). column_as_of found (column_named right n)) (take i names) ++ column_as_of found (column_named right (get_or names i [])) ∷ [] =
    ap (map (λ (n : List ℕ). column_as_of found (column_named right n))) (take_more names i [] low) ∙ map-append _ (take i names) (get_or names i [] ∷ []) in
    c.in_ok-push.ensures.ok
    ∙ (λ k. c.loop-name.invariant k ++ item k ∷ [])
    ∙ append_assoc c.args.shown.now (map (λ (n : List ℕ). column_as_of found (column_named right n)) (take i names)) (column_as_of found (column_named right (get_or names i [])) ∷ [])
    ∙ ap (λ (l : List Contents). c.args.shown.now ++ l) (sym all)
