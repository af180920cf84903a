use Rattle.std.proofs.Common.{◌≤◌, length, vec_capacity}
use Rattle.taps.proofs.BoardLemmas.{Goes}
use Rattle.taps.proofs.board.Board.drive.Given as goal

abbrev pub invariant-loop-seat : goal.invariant-loop-seat
invariant-loop-seat g l = record {
  can_next : (goal.iterator-loop-seat g).can_next l.seat-iterator;
  is_finite : (goal.iterator-loop-seat g).is_finite l.seat-iterator;
  goes : Goes (λ s. s.number) (λ s. (goal.Tap-dyn g (s.tap.vtable, s.tap.value)).shown s.tap.value) l.messages l.fn.self.seats.items l.yielded
      l.seat-iterator.rest.items l.staying.items l.dropped.items;
  room : length l.fn.self.seats.items ≤ vec_capacity l.staying;
  space : length l.fn.self.seats.items ≤ vec_capacity l.dropped;
}
