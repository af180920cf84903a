use Rattle.std.proofs.Common.{arith, ◌∙◌, sym, ap, eqb}
use Rattle.std.proofs.lemmas.Int.{ints}
use Rattle.q_text.specs.Numbers.{signed}
use Rattle.q_text.proofs.Ranges.{whole-read}
use Rattle.q_text.proofs.numbers.whole_number.Goals as goal

pub returns : goal.returns
returns c =
    whole-read c.args.kind c.args.word.now c.size_of_whole.result _ c.in_range.result (sym c.is_null.ensures ∙ c.if-is_null.false) c.size_of_whole.ensures
    (◌∙◌ {b = c.signed-number.result} (omega (arith, ints)) (c.signed-number.ensures ∙ ap (λ b. signed (eqb b 45) c.size_of_whole.result) c.byte_at.ensures))
    c.in_range.ensures
