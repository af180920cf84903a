use Rattle.std.proofs.Common.{◌≡◌, length, sym, ap, ◌∙◌, map}
use Rattle.q_values.specs.Column.{contents}
use Rattle.q_verbs.specs.Aggregates.{null_of}
use Rattle.std.proofs.lemmas.List.FromFn.{length-range_with_len}
use Rattle.std.proofs.lemmas.Result.{IfOk-weaker}
use Rattle.q_values.specs.declared.column.Column.{Column}
use Rattle.q_grouped.specs.Grouped.{aggregates}
use Rattle.q_grouped.specs.Steps.{item_or}
use Rattle.q_verbs.specs.declared.verb.Verb1.TheVariants as u
use Rattle.q_grouped.proofs.RowLemmas.{last_by_rows}
use Rattle.q_grouped.proofs.rows.last_by.Goals as goal

pub fold_by-requires-clause-len : goal.fold_by-requires-clause-len
fold_by-requires-clause-len c = sym (length-range_with_len 0 (length c.args.codes.now))

pub returns-clause-atoms : goal.returns-clause-atoms
returns-clause-atoms c =
    let kind = (contents c.args.column.now).kind in
    let atoms = (contents c.args.column.now).atoms in
    let rows = c.as_slice.ensures.value ∙ c.in_ok-found.ensures.value in
    IfOk-weaker c.column_at.result (λ (column : Column). (contents column).atoms ≡ map (item_or (null_of kind) atoms) c.as_slice.result.now) (λ (column : Column). (contents column).atoms ≡ aggregates u.Last kind c.args.groups c.args.codes.now atoms)
    (λ column is. is ∙ ap (map (item_or (null_of kind) atoms)) rows ∙ last_by_rows kind c.args.groups c.args.codes.now atoms (length c.args.codes.now) c.requires.len) c.column_at.ensures.atoms
