use Rattle.std.proofs.Common.{◌≡◌, ℕ, map, sym, ap, ◌∙◌, subst}
use Rattle.q_values.specs.Table.{rows_of}
use Rattle.qsql_request.specs.Views.{column_form}
use Rattle.qsql_values.specs.Frames.{frame_of}
use Rattle.qsql_values.proofs.FrameLemmas.{AreOfSize, length_frame}
use Rattle.qsql_values.specs.Operands.{contents_of}
use Rattle.qsql_groups.specs.Groups.{key_columns}
use Rattle.qsql_groups.proofs.GroupLemmas.{keys_even_of, lent_columns}
use Rattle.qsql_groups.proofs.grouping.Grouping.of.Goals as goal

pub grouped-requires-clause-even : goal.grouped-requires-clause-even
grouped-requires-clause-even c =
    let frame = frame_of c.args.names.now c.args.columns.now in
    let forms = map column_form c.args.by.now in
    let is : lent_columns c.deref-2.result.now ≡ key_columns forms frame =
    ap lent_columns c.deref-2.ensures.value ∙ c.in_ok-lent.ensures ∙ ap (map contents_of) c.deref.ensures.value ∙ c.in_ok-keys.ensures ∙ ap (key_columns forms) c.new-scope.ensures in
    let rows = length_frame c.args.names.now c.args.columns.now c.requires.columns in
    let own : AreOfSize (rows_of c.args.columns.now) (key_columns forms frame) = subst (λ (n : ℕ). AreOfSize n (key_columns forms frame)) rows (keys_even_of frame c.args.by.now c.requires.keys) in
    subst (AreOfSize (rows_of c.args.columns.now)) (sym is) own
