use Rattle.std.proofs.Common.{◌≡◌, ◌-◌}
use Rattle.ipc_codec.specs.Extent.{after_columns}
use Rattle.ipc_codec.proofs.ReadingLemmas.{with_equal_lengths}
use Rattle.ipc_codec.proofs.reach.after_columns_of.Given as goal

abbrev pub invariant-loop : goal.invariant-loop
invariant-loop l = with_equal_lengths l.have_equal_lengths (after_columns l.room l.order l.rows (l.count - l.counter) l.rest) ≡ after_columns l.room l.order l.rows l.count l.bytes
