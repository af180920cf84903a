use Rattle.std.proofs.Common.{◌<◌, length, arith, sym}
use Rattle.plant_memory.proofs.ItemsLemmas.{wrong_more, wrong_here}
use Rattle.plant_memory.proofs.items.wrong_from.Goals as goal

pub returns-then-not-is_of_kind : goal.returns-then-not-is_of_kind
returns-then-not-is_of_kind c =
    let inside : c.loop-i.i < length c.args.kinds.now = omega arith in
    record { within = omega arith; value = wrong_here c.args.from c.loop-i.i _ _ _ _ inside c.loop-i-test.true c.index-items-i.is (sym c.if-not-is_of_kind.ensures) c.loop-i.invariant }

pub loop-i-preserved : goal.loop-i-preserved
loop-i-preserved c =
    let inside : c.loop-i.i < length c.args.kinds.now = omega arith in
    wrong_more c.args.from c.loop-i.i _ _ _ _ inside c.loop-i-test.true c.index-items-i.is (sym c.if-not-is_of_kind.ensures) c.loop-i.invariant
