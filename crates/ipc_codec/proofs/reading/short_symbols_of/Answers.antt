use Rattle.std.proofs.Common.{arith}
use Rattle.ipc_codec.specs.Reading.{texts_at}
use Rattle.ipc_codec.proofs.FrontLemmas.{texts_at-more}
use Rattle.ipc_codec.proofs.reading.short_symbols_of.Goals as goal

pub loop-preserved : goal.loop-preserved
loop-preserved c = record {
  others = rw c.push_reserved.ensures.items (texts_at-more c.loop.found.items c.args.count c.loop.counter c.loop.rest.now c.in-Some.read.0 c.in-Some.read.1.now (texts_at c.args.count c.args.bytes.now) c.loop-test.true c.in-Some.ensures.found c.loop.invariant.others);
  counted = omega (arith, c.push_reserved.ensures.len, c.loop.invariant.counted);
  room = omega (arith, c.push_reserved.ensures.capacity, c.loop.invariant.room);
  left = omega (arith, c.in-Some.ensures.shorter, c.loop.invariant.left);
}
