use Rattle.std.proofs.Common.{◌≡◌, ◌-◌}
use Rattle.ipc_codec.specs.Reading.{columns_at}
use Rattle.ipc_codec.specs.Front.{with_front}
use Rattle.ipc_codec.proofs.reading.columns_of.Given as goal

abbrev pub invariant-loop : goal.invariant-loop
invariant-loop l = with_front l.columns (columns_at l.room l.order (l.count - l.counter) l.rest) ≡ columns_at l.room l.order l.count l.bytes
