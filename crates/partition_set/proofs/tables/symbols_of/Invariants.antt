use Rattle.std.proofs.Common.{◌≡◌, take}
use Rattle.partition_set.proofs.tables.symbols_of.Given as goal

abbrev pub invariant-loop-name : goal.invariant-loop-name
invariant-loop-name l = l.items ≡ take l.name-index l.names
