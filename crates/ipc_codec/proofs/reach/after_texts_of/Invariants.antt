use Rattle.std.proofs.Common.{◌≡◌, ◌-◌}
use Rattle.ipc_codec.specs.Extent.{after_texts}
use Rattle.ipc_codec.proofs.reach.after_texts_of.Given as goal

abbrev pub invariant-loop : goal.invariant-loop
invariant-loop l = after_texts (l.count - l.counter) l.rest ≡ after_texts l.count l.bytes
