use Rattle.std.proofs.Common.{◌≡◌, length, map, take, ap, ◌∙◌, subst}
use Rattle.std.proofs.lemmas.List.{length-map}
use Rattle.q_filter.specs.Places.{is_true}
use Rattle.q_values.specs.Tree.{vector}
use Rattle.qsql_request.specs.Views.{form}
use Rattle.qsql_values.specs.ByRow.{frame_where}
use Rattle.qsql_values.specs.Frames.{Frame, frame_of}
use Rattle.qsql_values.specs.Operands.{contents_of}
use Rattle.qsql_values.specs.Values.{truths, kept}
use Rattle.qsql_values.proofs.FrameLemmas.{length_frame}
use Rattle.qsql_values.proofs.KeepingLemmas.{first_rows}
use Rattle.qsql_values.proofs.keeping.first_test.Goals as goal

pub returns-clause-size : goal.returns-clause-size
returns-clause-size c =
    c.in_ok-test.ensures.size ∙ ap (λ (f : Frame). length f.rows) c.new-scope.ensures ∙ length_frame c.args.names.now c.args.columns.now c.requires.columns

pub returns-clause-rows : goal.returns-clause-rows
returns-clause-rows c =
    let frame = frame_of c.args.names.now c.args.columns.now in
    let test = contents_of c.in_ok-test.test in
    first_rows frame (truths (vector test)) (length-map test.atoms is_true ∙ c.in_ok-test.ensures.size ∙ ap (λ (f : Frame). length f.rows) c.new-scope.ensures)
    ∙ subst (λ (f : Frame). frame_where (truths (vector test)) f ≡ kept (take c.in_ok-test.count (map form c.args.phrases.now)) f) c.new-scope.ensures c.in_ok-test.ensures.rows
