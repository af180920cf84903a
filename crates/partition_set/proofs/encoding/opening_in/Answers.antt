use Rattle.std.proofs.Common.{◌≡◌, ◌∷◌, ℕ, ℤ, true, false, subst, sym, ◌∙◌, arith, get_or, ◌<◌}
use Rattle.partition_set.specs.Records.{payload_of, IsRecord}
use Rattle.partition_set.specs.declared.record.ManifestRecord.TheVariants as m
use Rattle.partition_set.proofs.OrderLemmas.{no}
use Rattle.partition_set.proofs.EncodingLemmas.{opened-none, opened-read, date-kept}
use Rattle.partition_set.proofs.encoding.opening_in.Goals as goal

pub returns-then-is_opening-clause-some : goal.returns-then-is_opening-clause-some
returns-then-is_opening-clause-some c =
    let small : (i : ℕ) → get_or c.args.bytes.now i 0 < 256 = λ i. omega (arith, c.type_inv.bytes i) in
    let kept = date-kept c.args.bytes.now c.in_ok-by.date small c.in_ok-by.ensures.date in
    let read = opened-read c.args.bytes.now c.in_ok-by.by c.in_ok-by.date c.in_ok-by.ensures.len small c.in_ok-by.ensures.by c.in_ok-by.ensures.date in
    (subst (λ d. 2 ∷ c.args.bytes.now ≡ payload_of (m.Opened c.in_ok-by.by d)) (sym kept) read, c.is_opening.ensures.0 c.if-is_opening.true)

pub returns-else-is_opening-clause-none : goal.returns-else-is_opening-clause-none
returns-else-is_opening-clause-none c =
    let small : (i : ℕ) → get_or c.args.bytes.now i 0 < 256 = λ i. omega (arith, c.type_inv.bytes i) in
    let kept = date-kept c.args.bytes.now c.in_ok-by.date small c.in_ok-by.ensures.date in
    opened-none c.args.bytes.now c.in_ok-by.by c.in_ok-by.date c.in_ok-by.ensures.by c.in_ok-by.ensures.date (λ own. no (sym c.if-is_opening.false ∙ c.is_opening.ensures.1 (subst (λ d. IsRecord (m.Opened c.in_ok-by.by d)) (sym kept) own)))
