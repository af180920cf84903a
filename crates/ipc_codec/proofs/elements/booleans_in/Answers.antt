use Rattle.std.proofs.Common.{rules, arith, refl}
use Rattle.ipc_codec.specs.Numbers.{boolean_of, cells}
use Rattle.ipc_codec.proofs.CellsLemmas.{cells-more, boolean_at}
use Rattle.ipc_codec.proofs.elements.booleans_in.Goals as goal

pub loop-i-init : goal.loop-i-init
unfolding cells
loop-i-init c = search rules

pub loop-i-preserved : goal.loop-i-preserved
loop-i-preserved c =
    let more = cells-more boolean_of 1 c.loop-i.i c.args.bytes.now in
    let here = boolean_at c.loop-i.i c.args.bytes.now in
    record {
      items = rw (c.push_reserved.ensures.items, c.loop-i.invariant.items, more, here) refl;
      count = omega arith;
      room = omega arith;
    }
