use Rattle.std.proofs.Common.{◌<◌, arith}
use Rattle.pubsub.proofs.RowLemmas.{all_of_some}
use Rattle.pubsub.proofs.rows.all_rows.Goals as goal

pub returns-else-n-eq0 : goal.returns-else-n-eq0
returns-else-n-eq0 c =
    let some : 0 < c.args.n = omega (arith, c.if-n-eq0.false) in
    all_of_some c.args.n some
