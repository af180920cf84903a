use Rattle.std.proofs.Common.{◌≡◌, take}
use Rattle.taps.specs.Board.{Lives}
use Rattle.taps.proofs.seat.Seat.take_all.Given as goal

abbrev pub invariant-loop-message : goal.invariant-loop-message
invariant-loop-message g l = record {
  number : l.self.number ≡ l.fn.self.number;
  lives : Lives (take l.message-index l.messages) ((goal.Tap-dyn g (l.fn.self.tap.vtable, l.fn.self.tap.value)).shown l.fn.self.tap.value) ((goal.Tap-dyn g (l.self.tap.vtable, l.self.tap.value)).shown l.self.tap.value);
}
