use Rattle.std.proofs.Common.{arith, ap, refl, sym, ◌∙◌, ◌++◌, ◌≤◌, ◌+◌, length}
use Rattle.std.proofs.lemmas.Option.{slice_get_read}
use Rattle.ipc_codec.specs.Written.{text_bytes}
use Rattle.ipc_codec.proofs.WritingLemmas.{block-more, flat_map-more}
use Rattle.ipc_codec.proofs.writing.fill_block.Goals as goal

pub loop-symbol-preserved : goal.loop-symbol-preserved
loop-symbol-preserved c =
    let room : c.loop-symbol.end + 9 ≤ length c.loop-symbol.block = omega (arith, c.loop-symbol.invariant.within, c.loop-symbol-test.true, c.requires) in
    record {
      written = block-more c.loop-symbol.block _ c.symbol-item.result c.loop-symbol.end _ _ room (omega arith) (c.copy_from_slice.ensures.after ∙ c.padded.ensures) c.len-end.ensures.short.short c.len-end.ensures.value
          ∙ ap (λ l. l ++ text_bytes c.symbol-item.result) c.loop-symbol.invariant.written
          ∙ sym (flat_map-more text_bytes c.args.symbols.now c.loop-symbol.symbol-index c.symbol-item.result (slice_get_read c.args.symbols.now _ c.loop-symbol.symbol-index c.symbol-item.result refl c.loop-symbol-test.true c.symbol-item.is));
      within = omega (arith, c.loop-symbol.invariant.within, c.len-end.ensures.value, c.len-end.ensures.short.short);
    }
