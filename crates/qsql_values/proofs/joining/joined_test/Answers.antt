use Rattle.std.proofs.Common.{◌≡◌, ℕ, ◌++◌, Bool, List, length, map, take, drop, ap, ◌∙◌, sym, arith}
use Rattle.std.proofs.Math.Seq.{take-append_seam}
use Rattle.std.proofs.lemmas.List.{drop-map}
use Rattle.q_values.specs.Contents.{Contents}
use Rattle.q_values.specs.Tree.{vector}
use Rattle.q_values.specs.declared.atom.Atom.TheVariants as a
use Rattle.q_values.specs.declared.kind.Kind.TheVariants as k
use Rattle.qsql_request.specs.Forms.{Form}
use Rattle.qsql_request.specs.Views.{form}
use Rattle.qsql_request.specs.declared.request.Expr.{Expr}
use Rattle.qsql_values.specs.ByRow.{frame_where}
use Rattle.qsql_values.specs.Frames.{Frame}
use Rattle.qsql_values.specs.Values.{val, truths, rows_where, kept}
use Rattle.qsql_values.proofs.KeepingLemmas.{kept-steps, one_kept, rest_of, truths_of_booleans}
use Rattle.qsql_values.proofs.joining.joined_test.Goals as goal

pub returns-clause-rows : goal.returns-clause-rows
returns-clause-rows c =
    let frame = c.args.scope.now in
    let phrases = c.args.phrases.now in
    let phrase = c.index-phrases-0.result in
    let more = c.in_ok-more.more in
    let start = c.deref_mut.result.now in
    let flags = c.join_while_by_row.new.flags in
    let tested : start ≡ truths (val frame (form phrase)) = c.deref_mut.ensures.value ∙ c.in_ok-flags.ensures ∙ ap truths c.in_ok-test.ensures.value in
    let rows : frame_where start frame ≡ rows_where (form phrase) frame = ap (λ (fs : List Bool). frame_where fs frame) tested in
    let one = one_kept phrases phrase start frame c.requires.some c.index-phrases-0.is rows in
    let old = c.in_ok-flags.flags.items in
    let as_long : c.in_ok-flags.flags.len ≡ length flags = omega (arith, c.deref_mut.ensures.len, c.join_while_by_row.auto.flags) in
    let back : take c.in_ok-flags.flags.len (flags ++ drop (length flags) old) ≡ flags = ap (λ (n : ℕ). take n (flags ++ drop (length flags) old)) as_long ∙ take-append_seam flags (drop (length flags) old) in
    ap (λ (v : Contents). frame_where (truths (vector v)) frame) c.from_column.ensures
    ∙ ap (λ (fs : List Bool). frame_where (truths (vector (record { kind = k.Boolean; atoms = map (λ (b : Bool). a.Boolean b) fs }))) frame) back
    ∙ ap (λ (fs : List Bool). frame_where fs frame) (truths_of_booleans flags)
    ∙ c.in_ok-more.ensures.rows
    ∙ ap (λ (ps : List Expr). kept (take more (map form ps)) (frame_where start frame)) (rest_of phrases 1)
    ∙ ap (λ (f : Frame). kept (take more (map form (drop 1 phrases))) f) one
    ∙ ap (λ (fs : List Form). kept (take more fs) (kept (take 1 (map form phrases)) frame)) (sym (drop-map form 1 phrases))
    ∙ sym (kept-steps (map form phrases) 1 more frame)
