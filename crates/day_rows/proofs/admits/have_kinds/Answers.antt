use Rattle.std.proofs.Common.{arith, ◌<◌, length}
use Rattle.q_values.specs.Contents.{Contents}
use Rattle.day_rows.proofs.Lists.{take_more_same}
use Rattle.day_rows.proofs.admits.have_kinds.Goals as goal

pub loop-i-preserved : goal.loop-i-preserved
loop-i-preserved c =
    let i_in : c.loop-i.i < length c.args.kinds.now = omega (arith, c.loop-i-test.true, c.if-columns-kinds.false) in
    take_more_same (λ (v : Contents). v.kind) c.args.columns.now c.args.kinds.now c.loop-i.i c.index-columns-i.result _ c.loop-i-test.true i_in c.index-columns-i.is (c.is_of_kind.ensures.0 c.if-not-is_of_kind.false) c.loop-i.invariant
