use Rattle.std.proofs.Common.{arith, append_assoc, take}
use Rattle.std.specs.List.{flat_map}
use Rattle.ipc_codec.specs.Written.{text_bytes}
use Rattle.ipc_codec.proofs.WritingLemmas.{flat_map-more}
use Rattle.ipc_codec.proofs.writing.put_texts.Goals as goal

pub loop-at-preserved : goal.loop-at-preserved
loop-at-preserved c =
    let more = flat_map-more text_bytes c.args.symbols.now c.loop-at.at c.at.result.now c.at.ensures.value in
    record {
      written = rw (c.in_ok-put_text.ensures.ok, c.loop-at.invariant.written, more) (append_assoc c.args.out.now.items (flat_map text_bytes (take c.loop-at.at c.args.symbols.now)) (text_bytes c.at.result.now));
      within = omega (arith, c.loop-at-test.true, c.len.ensures);
    }
