use Rattle.std.proofs.Common.{arith, ap, ◌∙◌, ◌++◌}
use Rattle.ipc_codec.specs.Written.{text_bytes}
use Rattle.ipc_codec.proofs.WritingLemmas.{flat_map-part}
use Rattle.ipc_codec.proofs.writing.put_short_symbols.Goals as goal

pub loop-at-preserved : goal.loop-at-preserved
loop-at-preserved c = record {
  written = flat_map-part text_bytes c.args.symbols.now c.loop-at.at c.min-count.result _ c.args.out.now.items c.loop-at.out.items _ (omega arith) (c.in_ok-extend_from_slice.ensures.items ∙ ap (λ l. c.loop-at.out.items ++ l) c.fill_block-end.ensures.value) c.loop-at.invariant.written;
  within = omega (arith, c.min-count.ensures);
}
