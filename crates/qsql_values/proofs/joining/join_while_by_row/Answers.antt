use Rattle.std.proofs.Common.{◌≡◌, ◌<◌, ◌+◌, ◌++◌, [], ◌∷◌, List, length, map, take, get_or, ap, ◌∙◌, sym, arith}
use Rattle.std.proofs.lemmas.List.{take_more, get_or-map, length-map}
use Rattle.qsql_request.specs.Forms.{Form}
use Rattle.qsql_request.specs.Views.{form}
use Rattle.qsql_values.specs.ByRow.{frame_where}
use Rattle.qsql_values.specs.Values.{rows_where, kept}
use Rattle.qsql_values.proofs.ByRowLemmas.{kept-more}
use Rattle.qsql_values.proofs.joining.join_while_by_row.Goals as goal

pub loop-count-preserved : goal.loop-count-preserved
loop-count-preserved c =
    let phrases = c.args.phrases.now in
    let count = c.loop-count.count in
    let phrase = c.index-phrases-count-in-loop-count.result in
    let inside : count < length phrases = omega arith in
    let among : count < length (map form phrases) = omega (arith, length-map phrases form) in
    let one : get_or (map form phrases) count (form phrase) ≡ form phrase = get_or-map form phrases count phrase (form phrase) inside ∙ ap form (sym c.index-phrases-count-in-loop-count.is) in
    let more : take (count + 1) (map form phrases) ≡ take count (map form phrases) ++ form phrase ∷ [] = take_more (map form phrases) count (form phrase) among ∙ ap (λ (p : Form). take count (map form phrases) ++ p ∷ []) one in
    record {
      within = omega arith;
      size = c.in_ok-join_with.ensures.size;
      rows = c.in_ok-join_with.ensures.rows
          ∙ ap (rows_where (form phrase)) c.loop-count.invariant.rows
          ∙ sym (kept-more (take count (map form phrases)) (form phrase) (frame_where c.args.flags.now c.args.scope.now))
          ∙ ap (λ (fs : List Form). kept fs (frame_where c.args.flags.now c.args.scope.now)) (sym more);
    }
