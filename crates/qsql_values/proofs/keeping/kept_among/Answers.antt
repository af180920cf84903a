use Rattle.std.proofs.Common.{◌≡◌, ℕ, List, length, map, take, drop, ◌-◌, ap, ◌∙◌, sym, arith}
use Rattle.std.proofs.Math.Seq.{take-length}
use Rattle.std.proofs.lemmas.List.{drop-map, length-drop}
use Rattle.qsql_request.specs.Forms.{Form}
use Rattle.qsql_request.specs.Views.{form}
use Rattle.qsql_request.specs.declared.request.Expr.{Expr}
use Rattle.qsql_values.specs.Frames.{Frame, frame_of, rows_at}
use Rattle.qsql_values.specs.Values.{kept}
use Rattle.qsql_values.proofs.KeepingLemmas.{kept-steps}
use Rattle.qsql_values.proofs.keeping.kept_among.Goals as goal

pub loop-done-preserved : goal.loop-done-preserved
loop-done-preserved c =
    let frame = frame_of c.args.names.now c.args.columns.now in
    let start = rows_at c.args.places.items frame in
    let forms = map form c.args.phrases.now in
    let done = c.loop-done.done in
    let count = c.in_ok-more.count in
    let rest : take (length c.args.phrases.now - done) (drop done c.args.phrases.now) ≡ drop done c.args.phrases.now = ap (λ (n : ℕ). take n (drop done c.args.phrases.now)) (sym (length-drop done c.args.phrases.now)) ∙ take-length (drop done c.args.phrases.now) in
    record {
      phrases = omega (arith, c.in_ok-more.ensures.phrases);
      within = c.in_ok-more.ensures.within;
      rows = c.in_ok-more.ensures.rows
          ∙ ap (λ (ps : List Expr). kept (take count (map form ps)) (rows_at c.deref.result.now frame)) rest
          ∙ ap (λ (ps : List ℕ). kept (take count (map form (drop done c.args.phrases.now))) (rows_at ps frame)) c.deref.ensures.value
          ∙ ap (λ (f : Frame). kept (take count (map form (drop done c.args.phrases.now))) f) c.loop-done.invariant.rows
          ∙ ap (λ (fs : List Form). kept (take count fs) (kept (take done forms) start)) (sym (drop-map form done c.args.phrases.now))
          ∙ sym (kept-steps forms done count start);
    }
