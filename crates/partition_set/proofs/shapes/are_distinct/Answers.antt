use Rattle.std.proofs.Common.{◌≡◌, ◌↔◌, drop, length, sym, ◌∙◌, arith}
use Rattle.partition_set.proofs.OrderLemmas.{no}
use Rattle.partition_set.proofs.TableLemmas.{distinct-from}
use Rattle.partition_set.proofs.shapes.are_distinct.Goals as goal

pub returns-then-not-is_fresh : goal.returns-then-not-is_fresh
returns-then-not-is_fresh c =
    let step = distinct-from c.args.names.now c.loop-i.i c.index-names-i.result c.loop-i-test.true c.index-names-i.is in
    ((λ e. no e), λ h. sym c.if-not-is_fresh.true ∙ c.is_fresh.ensures.1 (step.0 (c.loop-i.invariant.1 h)).0)

pub loop-i-preserved : goal.loop-i-preserved
loop-i-preserved c =
    let step = distinct-from c.args.names.now c.loop-i.i c.index-names-i.result c.loop-i-test.true c.index-names-i.is in
    ((λ h. c.loop-i.invariant.0 (step.1 (c.is_fresh.ensures.0 c.if-not-is_fresh.false, h))), λ h. (step.0 (c.loop-i.invariant.1 h)).1)
