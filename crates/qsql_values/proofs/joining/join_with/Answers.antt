use Rattle.std.proofs.Common.{◌≡◌, ◌&&◌, Bool, List, length, ap, ◌∙◌, sym}
use Rattle.std.proofs.lemmas.List.{length-map}
use Rattle.std.proofs.lemmas.Simd.{length-zip2}
use Rattle.q_filter.specs.Places.{is_true}
use Rattle.q_values.specs.Contents.{Contents}
use Rattle.q_values.specs.Tree.{vector}
use Rattle.qsql_request.specs.Views.{form}
use Rattle.qsql_values.specs.ByRow.{both, frame_where}
use Rattle.qsql_values.specs.Operands.{contents_of}
use Rattle.qsql_values.specs.Values.{truths}
use Rattle.qsql_values.proofs.ByRowLemmas.{joined}
use Rattle.qsql_values.proofs.joining.join_with.Goals as goal

pub returns-clause-size : goal.returns-clause-size
returns-clause-size c =
    let test = contents_of c.in_ok-test.test in
    let flags : c.flags_of.result.now ≡ truths (vector test) = c.flags_of.ensures ∙ ap (λ (v : Contents). truths (vector v)) c.vector.ensures in
    let size : length c.flags_of.result.now ≡ length c.args.flags.now = ap length flags ∙ length-map test.atoms is_true ∙ c.in_ok-test.ensures.size ∙ sym c.requires.size in
    ap length c.keep_both.ensures ∙ length-zip2 (λ (x y : Bool). x && y) c.args.flags.now c.flags_of.result.now (sym size) ∙ c.requires.size

pub returns-clause-rows : goal.returns-clause-rows
returns-clause-rows c =
    let test = contents_of c.in_ok-test.test in
    let flags : c.flags_of.result.now ≡ truths (vector test) = c.flags_of.ensures ∙ ap (λ (v : Contents). truths (vector v)) c.vector.ensures in
    let together : c.keep_both.new.flags ≡ both c.args.flags.now (truths (vector test)) = c.keep_both.ensures ∙ ap (both c.args.flags.now) flags in
    ap (λ (fs : List Bool). frame_where fs c.args.scope.now) together
    ∙ sym (joined c.args.flags.now c.args.scope.now (form c.args.phrase.now) test c.requires.by_row (sym c.in_ok-test.ensures.value) (c.in_ok-test.ensures.size ∙ sym c.requires.size))
