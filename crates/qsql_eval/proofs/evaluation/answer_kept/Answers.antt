use Rattle.std.proofs.Common.{◌≡◌, List, map, ap, ◌∙◌, subst}
use Rattle.std.specs.Prelude.{IfOk}
use Rattle.q_values.specs.Tree.{tree}
use Rattle.qsql_request.specs.Views.{form, query_of}
use Rattle.qsql_request.specs.declared.request.Expr.{Expr}
use Rattle.qsql_values.specs.Frames.{Frame, frame_of, kind_beside}
use Rattle.qsql_values.specs.Values.{kept}
use Rattle.qsql_eval.specs.Judgement.{all_columns}
use Rattle.qsql_eval.specs.Meaning.{value_over_kept}
use Rattle.qsql_eval.proofs.FitLemmas.{kept_kinds}
use Rattle.qsql_eval.proofs.GroupFit.{kept_groupable}
use Rattle.qsql_eval.proofs.evaluation.answer_kept.Goals as goal

pub answer-requires-clause-groups : goal.answer-requires-clause-groups
answer-requires-clause-groups c some =
    let names = c.args.names.now in
    let frame = frame_of names c.args.columns.now in
    let now : frame_of names c.deref.result.now ≡ kept (map form c.as_slice.result.now) frame = ap (frame_of names) c.deref.ensures.value ∙ c.in_ok-kept.ensures.rows in
    let kinds = ap kind_beside now ∙ kept_kinds (map form c.as_slice.result.now) frame in
    kept_groupable frame (frame_of names c.deref.result.now) c.args.table.now c.args.query.now kinds (c.requires.groups some)

pub returns-in_ok-kept : goal.returns-in_ok-kept
returns-in_ok-kept c =
    let names = c.args.names.now in
    let query = c.args.query.now in
    let frame = frame_of names c.args.columns.now in
    let shown : frame_of names c.deref.result.now ≡ kept (map form query.phrases) frame =
    ap (frame_of names) c.deref.ensures.value ∙ c.in_ok-kept.ensures.rows ∙ ap (λ (ps : List Expr). kept (map form ps) frame) c.as_slice.ensures in
    subst (λ (f : Frame). IfOk c.answer.result (λ v. tree v ≡ value_over_kept (all_columns c.args.table.now) (query_of query) f)) shown c.answer.ensures
