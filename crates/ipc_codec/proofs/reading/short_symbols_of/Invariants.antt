use Rattle.std.proofs.Common.{◌≡◌, ◌-◌, ◌+◌, ◌≤◌, length, min, vec_len, vec_capacity}
use Rattle.ipc_codec.specs.Reading.{texts_at}
use Rattle.ipc_codec.specs.Front.{with_front}
use Rattle.ipc_codec.proofs.reading.short_symbols_of.Given as goal

abbrev pub invariant-loop : goal.invariant-loop
invariant-loop l = record {
  others : with_front l.found.items (texts_at (l.count - l.counter) l.rest) ≡ texts_at l.count l.bytes;
  counted : vec_len l.found ≡ l.counter;
  room : min l.count (length l.bytes) ≤ vec_capacity l.found;
  left : l.counter + length l.rest ≤ length l.bytes;
}
