use Rattle.std.proofs.Common.{arith, refl, ap, sym, ◌∙◌, ◌≡◌, ◌++◌, ◌<◌, ◌+◌, ◌-◌, append_assoc, length, take, drop}
use Rattle.std.specs.List.{flat_map}
use Rattle.std.proofs.lemmas.List.{length-take, length-drop}
use Rattle.ipc_codec.specs.Written.{text_bytes}
use Rattle.ipc_codec.proofs.WritingLemmas.{text-more, flat_map-more}
use Rattle.ipc_codec.proofs.writing.fill_with_texts.Goals as goal

pub loop-next-preserved : goal.loop-next-preserved
loop-next-preserved c =
    let symbols = c.args.symbols.now in
    let text = c.at-text.result.now in
    let end = c.loop-next.end in
    let before = flat_map text_bytes (take c.args.from symbols) in
    let room : end + length text < length c.loop-next.block = omega (arith, c.if-text-end.false) in
    let wide : length c.copy_to_front.new.room ≡ 576 - end = omega (arith, c.copy_to_front.auto.room, length-take (576 - end) (drop end c.loop-next.block), length-drop end c.loop-next.block) in
    record {
      rises = omega (arith, c.loop-next.invariant.rises);
      inside = omega (arith, c.loop-next-test.true, c.len.ensures);
      within = omega (arith, room);
      written = flat_map-more text_bytes symbols c.loop-next.next text c.at-text.ensures.value
          ∙ ap (λ l. l ++ text_bytes text) c.loop-next.invariant.written
          ∙ append_assoc before (take end c.loop-next.block) (text_bytes text)
          ∙ ap (λ l. before ++ l) (sym (text-more c.loop-next.block c.copy_to_front.new.room text end (576 - end) (length text) refl (omega (arith, room)) room (omega (arith, c.loop-next.invariant.within)) wide c.copy_to_front.ensures));
    }
