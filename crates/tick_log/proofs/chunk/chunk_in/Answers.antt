use Rattle.std.proofs.Common.{◌≡◌, ℕ, List, [], ◌∷◌, ◌++◌, length, ap, sym, ◌∙◌}
use Rattle.q_values.specs.Contents.{Contents}
use Rattle.day_rows.specs.declared.entry.Entry.TheVariants as e
use Rattle.tick_log.proofs.Made.{made}
use Rattle.tick_log.proofs.Steps.{ok_then}
use Rattle.tick_log.proofs.chunk.chunk_in.Goals as goal

pub returns : goal.returns
returns c =
    let columns = c.as_slice-columns.result.now in
    let is = c.in-Upd.is ∙ ap (λ (cs : List Contents). e.Upd c.in-Upd.by c.in-Upd.table cs) (sym c.as_slice-columns.ensures) in
    let front : List ℕ = c.extend_from_slice.new.self.items in
    let empty = c.in_ok-reserve-in-Upd.ensures.items ∙ c.requires.empty in
    let four : length front ≡ 4 = ap length (c.in_ok-extend_from_slice-in-Upd.ensures.items ∙ ap (λ (l : List ℕ). l ++ 0 ∷ 0 ∷ 0 ∷ 0 ∷ []) empty) in
    ok_then c.from_buffer.result
    (λ p bytes. made c.args.schema.now c.args.entry.now c.in-Upd.by c.in-Upd.table columns c.at.result.now p.bytes front c.put_chunk.new.out.items is c.requires.loggable c.at.ensures.value c.chunk_length.ensures.fit four c.in_ok-put_chunk-in-Upd.ensures bytes)
    c.from_buffer.ensures.bytes
