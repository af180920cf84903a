use Rattle.std.proofs.Common.{arith}
use Rattle.taps.proofs.BoardLemmas.{goes_on, goes_without, goes_below}
use Rattle.taps.proofs.board.Board.drive.Goals as goal

pub loop-seat-preserved-then-take_all : goal.loop-seat-preserved-then-take_all
loop-seat-preserved-then-take_all g c = record {
  can_next = tt;
  is_finite = tt;
  goes = goes_on _ _ c.as_slice-messages.result.now c.args.self.now.seats.items c.loop-seat.yielded c.loop-seat.seat-iterator.rest.items c.loop-seat.staying.items c.loop-seat.dropped.items c.in-Some.seat c.take_all.new.self
      c.next.new.self.rest.items c.push_reserved.new.self.items c.args.self.now.ascend c.loop-seat.invariant.goes c.in-Some.ensures.steps.0 c.take_all.ensures.number c.if-take_all.ensures.ends c.push_reserved.ensures.items;
  room = omega (arith, c.loop-seat.invariant.room, c.push_reserved.ensures.capacity);
  space = c.loop-seat.invariant.space;
}

pub loop-seat-preserved : goal.loop-seat-preserved
loop-seat-preserved g c = record {
  can_next = tt;
  is_finite = tt;
  goes = goes_without _ _ c.as_slice-messages.result.now c.args.self.now.seats.items c.loop-seat.yielded c.loop-seat.seat-iterator.rest.items c.loop-seat.staying.items c.loop-seat.dropped.items c.in-Some.seat c.take_all.new.self
      c.next.new.self.rest.items c.push_reserved-else-take_all.new.self.items c.loop-seat.invariant.goes c.in-Some.ensures.steps.0 c.take_all.ensures.number c.if-take_all.ensures.ends c.push_reserved-else-take_all.ensures.items;
  room = c.loop-seat.invariant.room;
  space = omega (arith, c.loop-seat.invariant.space, c.push_reserved-else-take_all.ensures.capacity);
}

pub invariant_of-self-2 : goal.invariant_of-self-2
invariant_of-self-2 g c = record {
  given = goes_below _ _ c.as_slice-messages.result.now c.args.self.now.seats.items c.loop-seat.yielded c.loop-seat.seat-iterator.rest.items c.loop-seat.staying.items c.loop-seat.dropped.items c.args.self.now.next c.loop-seat.invariant.goes
      c.args.self.now.given;
  ascend = c.loop-seat.invariant.goes.ascend;
}
