use Rattle.std.proofs.Common.{arith, ap, ◌∙◌, subst, sym, length, ◌≤◌}
use Rattle.q_values.specs.Short.{IsFilled, text_of}
use Rattle.q_values.proofs.ShortLemmas.{before, length-text_of, no_nul-text_of, text_of-filled, IsFilled-filled, bytes-text_of, bytes_fit}
use Rattle.q_values.proofs.short.ShortSymbol.before_nul.Goals as goal

pub overflow_cast-length : goal.overflow_cast-length
overflow_cast-length c = omega (arith, c.count_before_nul.ensures, length-text_of c.args.bytes.now, c.told-bytes)

pub invariant_of-result : goal.invariant_of-result
invariant_of-result c =
    let bytes = c.args.bytes.now in
    let short : length (text_of bytes) ≤ 8 = omega (arith, length-text_of bytes, c.told-bytes) in
    subst IsFilled (sym (before bytes _ c.told-bytes c.count_before_nul.ensures))
    (IsFilled-filled (text_of bytes) (no_nul-text_of bytes) short (bytes-text_of bytes (bytes_fit bytes (λ i. omega (arith, c.fits-bytes i)))))

pub returns : goal.returns
returns c =
    let bytes = c.args.bytes.now in
    let short : length (text_of bytes) ≤ 8 = omega (arith, length-text_of bytes, c.told-bytes) in
    ap text_of (before bytes _ c.told-bytes c.count_before_nul.ensures) ∙ text_of-filled 8 (text_of bytes) (no_nul-text_of bytes) short
