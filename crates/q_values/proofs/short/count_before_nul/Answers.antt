use Rattle.std.proofs.Common.{refl}
use Rattle.q_values.proofs.ShortLemmas.{none_set, lowest_set}
use Rattle.q_values.proofs.short.count_before_nul.Goals as goal

pub returns-then-nuls-eq0 : goal.returns-then-nuls-eq0
returns-then-nuls-eq0 c = none_set c.args.bytes.now _ c.told-bytes refl c.if-nuls-eq0.true

pub returns-else-nuls-eq0 : goal.returns-else-nuls-eq0
returns-else-nuls-eq0 c = lowest_set c.args.bytes.now _ c.told-bytes refl c.if-nuls-eq0.false
