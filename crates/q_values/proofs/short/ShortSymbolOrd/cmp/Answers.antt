use Rattle.std.proofs.Common.{sym}
use Rattle.q_values.proofs.ShortLemmas.{number_of_cmp}
use Rattle.q_values.proofs.short.ShortSymbolOrd.cmp.Goals as goal

pub returns : goal.returns
returns c =
    rw (c.cmp.ensures, c.number.ensures.value, c.number-2.ensures.value)
    (sym (number_of_cmp c.args.self.now c.args.other.now c.number.ensures.short c.number-2.ensures.short))
