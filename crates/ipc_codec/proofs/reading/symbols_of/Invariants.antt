use Rattle.std.proofs.Common.{◌≡◌, ◌-◌}
use Rattle.ipc_codec.specs.Reading.{texts_at}
use Rattle.ipc_codec.specs.Front.{with_front}
use Rattle.ipc_codec.proofs.reading.symbols_of.Given as goal

abbrev pub invariant-loop : goal.invariant-loop
invariant-loop l = with_front l.symbols (texts_at (l.left - l.counter) l.rest) ≡ texts_at l.count l.bytes
