use Rattle.std.proofs.Common.{sym}
use Rattle.q_values.proofs.ShortLemmas.{number_of_eq}
use Rattle.q_values.proofs.short.ShortSymbolPartialEq.eq.Goals as goal

pub returns : goal.returns
returns c =
    rw (c.number.ensures.value, c.number-2.ensures.value)
    (sym (number_of_eq c.args.self.now c.args.other.now c.number.ensures.short c.number-2.ensures.short))
