use Rattle.std.proofs.Common.{◌≡◌, ◌++◌, length}
use Rattle.std.specs.List.{AllByRecursion, flat_map}
use Rattle.ipc_codec.specs.Canonical.{IsWritable}
use Rattle.ipc_codec.specs.Written.{vector_bytes}
use Rattle.tick_log.proofs.reading.vectors_of.Given as goal

abbrev pub invariant-loop : goal.invariant-loop
invariant-loop l = record {
  spelled : l.bytes ≡ flat_map vector_bytes l.columns ++ l.rest;
  counted : length l.columns ≡ l.counter;
  writable : AllByRecursion IsWritable l.columns;
}
