use Rattle.std.proofs.Common.{◌≡◌, ◌≢◌, take, All}
use Rattle.taps.proofs.board.Board.take_off.Given as goal

abbrev pub invariant-loop-i : goal.invariant-loop-i
invariant-loop-i g l = record {
  same : l.self ≡ l.fn.self;
  others : All (λ s. s.number ≢ l.id) (take l.i l.self.seats.items);
}
