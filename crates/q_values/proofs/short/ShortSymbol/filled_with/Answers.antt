use Rattle.q_values.proofs.ShortLemmas.{filled_over, text_of-filled, IsFilled-filled, bytes_fit}
use Rattle.q_values.proofs.short.ShortSymbol.filled_with.Goals as goal

pub invariant_of-result : goal.invariant_of-result
invariant_of-result c =
    let short = c.requires.short in
    rw (c.copy_from_slice.ensures.after, filled_over 8 c.args.symbol.now short)
    (IsFilled-filled c.args.symbol.now c.requires.no_nul short (bytes_fit c.args.symbol.now c.type_inv.symbol))

pub returns : goal.returns
returns c =
    let short = c.requires.short in
    rw (c.copy_from_slice.ensures.after, filled_over 8 c.args.symbol.now short)
    (text_of-filled 8 c.args.symbol.now c.requires.no_nul short)
