use Rattle.std.proofs.Common.{◌≡◌, ◌==◌, ℕ, List, Some, All, length, map, true, ap, ◌∙◌, sym, subst}
use Rattle.std.specs.Prelude.{IfOk}
use Rattle.q_values.specs.Tree.{tree}
use Rattle.q_values.specs.declared.kind.Kind.TheVariants as k
use Rattle.qsql_request.specs.Views.{form, query_of}
use Rattle.qsql_request.specs.declared.request.Expr.{Expr}
use Rattle.qsql_values.specs.Frames.{Frame, frame_of, kind_beside}
use Rattle.qsql_values.specs.Kinds.{kind_in}
use Rattle.qsql_values.specs.Values.{kept}
use Rattle.qsql_eval.specs.Judgement.{all_columns}
use Rattle.qsql_eval.specs.Meaning.{value_over_kept}
use Rattle.qsql_eval.specs.Ready.{IsAnswerable, IsGroupable}
use Rattle.qsql_eval.proofs.FitLemmas.{fit_answerable, fit_phrases, fit_built, kept_none}
use Rattle.qsql_eval.proofs.GroupFit.{fit_groupable}
use Rattle.qsql_eval.proofs.evaluation.eval.Goals as goal

pub answer-requires-clause-rows : goal.answer-requires-clause-rows
answer-requires-clause-rows c none =
    let rows = c.args.rows.now in
    let typed = c.args.typed.now in
    let frame = frame_of rows.names rows.columns in
    let same : frame_of c.as_slice-names.result.now c.as_slice-columns.result.now ≡ frame = ap (λ (ns : List (List ℕ)). frame_of ns c.as_slice-columns.result.now) c.as_slice-names.ensures ∙ ap (frame_of rows.names) c.as_slice-columns.ensures in
    subst (λ (f : Frame). IsAnswerable f typed.table.now typed.query.now) (sym same) (fit_answerable typed.table.now typed.query.now frame typed.fit c.requires.columns none)

pub answer-requires-clause-groups : goal.answer-requires-clause-groups
answer-requires-clause-groups c some =
    let rows = c.args.rows.now in
    let typed = c.args.typed.now in
    let frame = frame_of rows.names rows.columns in
    let same : frame_of c.as_slice-names.result.now c.as_slice-columns.result.now ≡ frame = ap (λ (ns : List (List ℕ)). frame_of ns c.as_slice-columns.result.now) c.as_slice-names.ensures ∙ ap (frame_of rows.names) c.as_slice-columns.ensures in
    subst (λ (f : Frame). IsGroupable f typed.table.now typed.query.now) (sym same) (fit_groupable typed.table.now typed.query.now frame typed.fit c.requires.columns some)

pub answer_kept-requires-clause-kinds : goal.answer_kept-requires-clause-kinds
answer_kept-requires-clause-kinds c =
    let rows = c.args.rows.now in
    let typed = c.args.typed.now in
    let frame = frame_of rows.names rows.columns in
    let same : frame_of c.as_slice-names.result.now c.as_slice-columns.result.now ≡ frame = ap (λ (ns : List (List ℕ)). frame_of ns c.as_slice-columns.result.now) c.as_slice-names.ensures ∙ ap (frame_of rows.names) c.as_slice-columns.ensures in
    subst (λ (f : Frame). All (λ (p : Expr). kind_in (kind_beside f) (form p) ≡ Some k.Boolean) typed.query.now.phrases) (sym same) (fit_phrases typed.table.now typed.query.now frame typed.fit c.requires.columns)

pub answer_kept-requires-clause-built : goal.answer_kept-requires-clause-built
answer_kept-requires-clause-built c =
    let typed = c.args.typed.now in
    fit_built typed.table.now typed.query.now typed.fit

pub answer_kept-requires-clause-rows : goal.answer_kept-requires-clause-rows
answer_kept-requires-clause-rows c none =
    let rows = c.args.rows.now in
    let typed = c.args.typed.now in
    let frame = frame_of rows.names rows.columns in
    let same : frame_of c.as_slice-names.result.now c.as_slice-columns.result.now ≡ frame = ap (λ (ns : List (List ℕ)). frame_of ns c.as_slice-columns.result.now) c.as_slice-names.ensures ∙ ap (frame_of rows.names) c.as_slice-columns.ensures in
    subst (λ (f : Frame). IsAnswerable f typed.table.now typed.query.now) (sym same) (fit_answerable typed.table.now typed.query.now frame typed.fit c.requires.columns none)

pub answer_kept-requires-clause-groups : goal.answer_kept-requires-clause-groups
answer_kept-requires-clause-groups c some =
    let rows = c.args.rows.now in
    let typed = c.args.typed.now in
    let frame = frame_of rows.names rows.columns in
    let same : frame_of c.as_slice-names.result.now c.as_slice-columns.result.now ≡ frame = ap (λ (ns : List (List ℕ)). frame_of ns c.as_slice-columns.result.now) c.as_slice-names.ensures ∙ ap (frame_of rows.names) c.as_slice-columns.ensures in
    subst (λ (f : Frame). IsGroupable f typed.table.now typed.query.now) (sym same) (fit_groupable typed.table.now typed.query.now frame typed.fit c.requires.columns some)

pub returns-then-is_empty : goal.returns-then-is_empty
returns-then-is_empty c =
    let rows = c.args.rows.now in
    let typed = c.args.typed.now in
    let frame = frame_of rows.names rows.columns in
    let same : frame_of c.as_slice-names.result.now c.as_slice-columns.result.now ≡ frame = ap (λ (ns : List (List ℕ)). frame_of ns c.as_slice-columns.result.now) c.as_slice-names.ensures ∙ ap (frame_of rows.names) c.as_slice-columns.ensures in
    let none : (length typed.query.now.phrases == 0) ≡ true = sym c.is_empty.ensures ∙ c.if-is_empty.true in
    let shown : frame_of c.as_slice-names.result.now c.as_slice-columns.result.now ≡ kept (map form typed.query.now.phrases) frame = same ∙ sym (kept_none typed.query.now.phrases frame none) in
    subst (λ (f : Frame). IfOk c.answer.result (λ v. tree v ≡ value_over_kept (all_columns typed.table.now) (query_of typed.query.now) f)) shown c.answer.ensures

pub returns-else-is_empty : goal.returns-else-is_empty
returns-else-is_empty c =
    let rows = c.args.rows.now in
    let typed = c.args.typed.now in
    let frame = frame_of rows.names rows.columns in
    let same : frame_of c.as_slice-names.result.now c.as_slice-columns.result.now ≡ frame = ap (λ (ns : List (List ℕ)). frame_of ns c.as_slice-columns.result.now) c.as_slice-names.ensures ∙ ap (frame_of rows.names) c.as_slice-columns.ensures in
    let shown : kept (map form typed.query.now.phrases) (frame_of c.as_slice-names.result.now c.as_slice-columns.result.now) ≡ kept (map form typed.query.now.phrases) frame = ap (kept (map form typed.query.now.phrases)) same in
    subst (λ (f : Frame). IfOk c.answer_kept.result (λ v. tree v ≡ value_over_kept (all_columns typed.table.now) (query_of typed.query.now) f)) shown c.answer_kept.ensures
