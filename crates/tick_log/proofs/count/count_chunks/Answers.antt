use Rattle.std.proofs.Common.{◌≡◌, ◌+◌, ◌∷◌, ◌++◌, [], List, ℕ, take, subst, sym, ap, ◌∙◌, arith}
use Rattle.day_rows.specs.Day.{entry_rows, total_rows}
use Rattle.tick_log.specs.Chunk.{IsChunk}
use Rattle.tick_log.specs.Replay.{AreChunks}
use Rattle.tick_log.proofs.Replays.{chunks_more, take_next, total-more}
use Rattle.tick_log.proofs.count.count_chunks.Goals as goal

pub loop-i-preserved : goal.loop-i-preserved
loop-i-preserved c =
    let i = c.loop-i.invariant in
    let schema = c.args.schema.now in
    let front = take c.loop-i.i c.args.records.now in
    let payload = c.at.result.now in
    let entry = c.in-Ok._entry in
    let next = take_next c.args.records.now c.loop-i.i payload c.at.ensures in
    let same : c.loop-i.rows ≡ 0 + total_rows i.entries = omega (arith, i.rows_are) in
    let more = chunks_more schema 0 front i.entries payload entry i.good (subst (λ (n : ℕ). IsChunk schema n payload entry) same c.in-Ok.ensures.found) in
    record {
      entries = i.entries ++ entry ∷ [];
      good = subst (λ (ps : List (List ℕ)). AreChunks schema 0 ps (i.entries ++ entry ∷ [])) (sym next) more;
      rows_are = c.in-Ok.ensures.rows ∙ ap (λ (n : ℕ). n + entry_rows entry) i.rows_are ∙ sym (total-more i.entries entry);
      bounded = c.in-Ok.ensures.bounded;
    }
