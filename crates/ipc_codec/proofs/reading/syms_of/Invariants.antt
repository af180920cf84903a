use Rattle.std.proofs.Common.{◌≡◌, ◌-◌}
use Rattle.ipc_codec.specs.Reading.{texts_at}
use Rattle.ipc_codec.specs.Front.{with_front}
use Rattle.ipc_codec.proofs.reading.syms_of.Given as goal

abbrev pub invariant-loop : goal.invariant-loop
invariant-loop l = with_front l.names (texts_at (l.count - l.counter) l.rest) ≡ texts_at l.count l.bytes
