use Rattle.std.proofs.Common.{◌≤◌, ◌++◌, Bool, cond, length, map, arith, ap, ap₂, sym, refl, ◌∙◌, ◌∷◌, [], List}
use Rattle.std.specs.Prelude.{codes, option_copied}
use Rattle.std.proofs.lemmas.List.{map-append}
use Rattle.std.proofs.lemmas.Option.{slice_get_within}
use Rattle.q_values.specs.Contents.{Contents}
use Rattle.day_rows.specs.Rows.{column_of}
use Rattle.gateway.specs.Kept.{column_part}
use Rattle.gateway.specs.Needs.{is_wanted}
use Rattle.gateway.specs.DateRows.{rows_on}
use Rattle.gateway.specs.TableRows.{dates_of_rows, numbers_on, columns_from}
use Rattle.gateway.proofs.ChosenLemmas.{columns_next, columns_all, column_at_index, has_column_at, length-columns_from}
use Rattle.gateway.proofs.table.columns_of.Goals as goal

pub overflow_cast-i : goal.overflow_cast-i
overflow_cast-i c = omega (arith, c.requires.few, c.loop-i-test.true, c.len-i-end.ensures)

pub virtual_columns-requires-clause-table : goal.virtual_columns-requires-clause-table
virtual_columns-requires-clause-table c = slice_get_within c.args.snapshot.now.frame.schema c.args.part.now.index c.args.table.now c.requires.table

pub push_column-requires-clause-table : goal.push_column-requires-clause-table
push_column-requires-clause-table c = slice_get_within c.args.snapshot.now.frame.schema c.args.part.now.index c.args.table.now c.requires.table

pub push_column-requires-clause-exists : goal.push_column-requires-clause-exists
push_column-requires-clause-exists c = has_column_at c.args.snapshot.now.frame.schema c.args.part.now.index c.loop-i.i c.args.table.now c.at-kind.result.now c.requires.table c.at-kind.ensures

pub loop-i-preserved : goal.loop-i-preserved
loop-i-preserved c =
    let p = is_wanted c.args.wanted.now in
    let part = c.args.part.now in
    let f = column_part (option_copied part.places) in
    let rows = rows_on part.dates.now c.args.snapshot.now.frame.first c.args.snapshot.now.entries part.index in
    let numbers = numbers_on part.dates.now c.args.snapshot.now.frame.first c.args.snapshot.now.entries part.index in
    let kinds = c.args.table.now.kinds in
    let names = c.args.table.now.names in
    let column = column_of c.at-kind.result.now c.loop-i.i rows in
    let next = columns_next p (codes "date" ∷ codes "i" ∷ []) names (dates_of_rows rows ∷ numbers ∷ []) (columns_from 0 kinds rows) c.loop-i.i c.at-name.result.now column refl
    c.at-name.ensures (column_at_index kinds rows c.loop-i.i c.at-kind.result.now c.at-kind.ensures) in
    c.in_ok-push_column.ensures
    ∙ ap₂ (λ (l : List Contents) (b : Bool). l ++ map f (cond b (column ∷ []) [])) c.loop-i.invariant (c.has-is_made.ensures ∙ ap p c.bytes.ensures.value)
    ∙ sym (map-append f _ (cond (p c.at-name.result.now) (column ∷ []) []))
    ∙ ap (map f) (sym next)

pub returns : goal.returns
returns c =
    let part = c.args.part.now in
    let rows = rows_on part.dates.now c.args.snapshot.now.frame.first c.args.snapshot.now.entries part.index in
    let numbers = numbers_on part.dates.now c.args.snapshot.now.frame.first c.args.snapshot.now.entries part.index in
    let kinds = c.args.table.now.kinds in
    let past : length c.args.table.now.names ≤ c.loop-i.i = omega (arith, c.loop-i-test.false, c.len-i-end.ensures) in
    c.loop-i.invariant
    ∙ ap (map (column_part (option_copied part.places)))
    (columns_all (is_wanted c.args.wanted.now) (codes "date" ∷ codes "i" ∷ []) c.args.table.now.names (dates_of_rows rows ∷ numbers ∷ []) (columns_from 0 kinds rows) c.loop-i.i past
    (omega (arith, past, c.requires.named, length-columns_from 0 kinds rows)))
