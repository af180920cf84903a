use Rattle.std.proofs.Common.{◌≡◌, ◌+◌, ◌∷◌, ◌++◌, [], List, ℕ, length, max, take, subst, sym, ap, ◌∙◌, arith}
use Rattle.std.proofs.lemmas.List.{length-append}
use Rattle.day_rows.specs.Day.{entry_rows, total_rows}
use Rattle.day_rows.specs.declared.entry.Entry.{Entry}
use Rattle.tick_log.specs.Chunk.{IsChunk}
use Rattle.tick_log.specs.Replay.{AreChunks, top_by}
use Rattle.tick_log.proofs.Replays.{chunks_more, take_next, total-more, top_by-push, chunk-pass}
use Rattle.tick_log.proofs.day.replay_into.Goals as goal

pub loop-i-preserved : goal.loop-i-preserved
loop-i-preserved c =
    let i = c.loop-i.invariant in
    let schema = c.args.schema.now in
    let front = take c.loop-i.i c.args.records.now in
    let payload = c.at.result.now in
    let entries = c.loop-i.day.day.updates in
    let entry = c.in-Ok.entry in
    let next = take_next c.args.records.now c.loop-i.i payload c.at.ensures in
    let added = c.in_ok-add-in-Ok.ensures.ok in
    let updates = ap (λ day. day.updates) added in
    let same : c.loop-i.rows ≡ 0 + total_rows entries = omega (arith, i.rows_are) in
    let more = chunks_more schema 0 front entries payload entry i.good (subst (λ (n : ℕ). IsChunk schema n payload entry) same c.in-Ok.ensures.found) in
    record {
      good = subst (λ (ps : List (List ℕ)). AreChunks schema 0 ps c.add.new.day.day.updates) (sym next) (subst (λ (es : List Entry). AreChunks schema 0 (front ++ payload ∷ []) es) (sym updates) more);
      kinds_are = ap (λ day. day.kinds) added ∙ i.kinds_are;
      date_is = ap (λ day. day.date) added ∙ i.date_is;
      rows_are = c.in-Ok.ensures.rows ∙ ap (λ (n : ℕ). n + entry_rows entry) i.rows_are ∙ sym (total-more entries entry) ∙ ap total_rows (sym updates);
      bounded = c.in-Ok.ensures.bounded;
      number_is = ap length updates ∙ length-append entries (entry ∷ []) ∙ omega (arith, i.number_is);
      greatest = c.max-top_by.ensures ∙ ap (λ (n : ℕ). max n c.maker_of-by.result) i.greatest
          ∙ ap (max (top_by entries)) c.maker_of-by.ensures ∙ sym (top_by-push entries entry) ∙ ap top_by (sym updates);
      below = omega (
        arith,
        c.max-top_by.ensures,
        c.maker_of-by.ensures,
        i.below,
        chunk-pass schema c.loop-i.rows payload entry c.in-Ok.ensures.found,
      );
    }
