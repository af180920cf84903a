use Rattle.std.proofs.Common.{refl, ap, ◌≡◌, ◌∙◌, ◌++◌, cond, ◌==◌, [], length, Some, slice_get}
use Rattle.std.proofs.lemmas.Option.{slice_get_read}
use Rattle.day_rows.specs.Joined.{atoms_of}
use Rattle.day_rows.proofs.GrowLemmas.{on_ok-more, on_err-more, tables-step, tables-kept}
use Rattle.day_rows.proofs.block.append_update.Goals as goal

pub returns-clause-ok : goal.returns-clause-ok
returns-clause-ok c =
    let tables = c.add_tables.new.tables.items in
    let i = c.args.index in
    let i_in = c.in_ok-add_tables.ensures.ok in
    let own : slice_get tables i ≡ Some c.index_mut.result.now = slice_get_read tables (length tables) i c.index_mut.result.now refl i_in c.index_mut.ensures.value in
    on_ok-more c.append.result (λ more table column.
    tables-step tables i c.index_mut.result.now c.append.new.self c.args.columns.now i_in own (rw c.as_slice.ensures at more) table column
    ∙ ap (λ a. a ++ cond (i == table) (atoms_of (slice_get c.args.columns.now column)) []) (c.add_tables.ensures.same table column)) c.append.ensures.ok

pub returns-clause-err : goal.returns-clause-err
returns-clause-err c =
    let tables = c.add_tables.new.tables.items in
    let i = c.args.index in
    let i_in = c.in_ok-add_tables.ensures.ok in
    let own : slice_get tables i ≡ Some c.index_mut.result.now = slice_get_read tables (length tables) i c.index_mut.result.now refl i_in c.index_mut.ensures.value in
    on_err-more c.append.result (λ same table column.
    tables-kept tables i c.index_mut.result.now c.append.new.self i_in own same table column ∙ c.add_tables.ensures.same table column) c.append.ensures.err
