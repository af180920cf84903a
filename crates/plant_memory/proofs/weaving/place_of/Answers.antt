use Rattle.std.proofs.Common.{◌<◌, arith, refl, length, get_or}
use Rattle.std.proofs.lemmas.List.{get_or_default}
use Rattle.plant_memory.specs.declared.faults.Mark.{Mark}
use Rattle.plant_memory.proofs.TailLemmas.{passed-more, placed-before}
use Rattle.plant_memory.proofs.weaving.place_of.Goals as goal

pub returns-then-since-gap : goal.returns-then-since-gap
returns-then-since-gap c =
    let marks = c.args.marks.now in
    let i = c.loop-faults.faults in
    let none : Mark = record { by = 0; gap = 0 } in
    let i_in : i < length marks = omega (arith, c.loop-faults-test.true) in
    placed-before marks c.args.count c.args.index i c.loop-faults.updates c.loop-faults.since c.min-gap.result (get_or marks i none) _ i_in (get_or_default marks i none (get_or marks i none) i_in) c.loop-faults.invariant c.min-gap.ensures (omega (arith, c.if-since-gap.true)) refl

pub loop-faults-preserved : goal.loop-faults-preserved
loop-faults-preserved c =
    let marks = c.args.marks.now in
    let i = c.loop-faults.faults in
    let none : Mark = record { by = 0; gap = 0 } in
    let i_in : i < length marks = omega (arith, c.loop-faults-test.true) in
    passed-more marks c.args.count c.args.index i c.loop-faults.updates c.loop-faults.since c.min-gap.result (get_or marks i none) i_in (get_or_default marks i none (get_or marks i none) i_in) c.loop-faults.invariant c.min-gap.ensures (omega (arith, c.if-since-gap.false))
