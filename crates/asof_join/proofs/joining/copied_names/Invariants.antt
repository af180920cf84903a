use Rattle.std.proofs.Common.{◌≡◌, take}
use Rattle.asof_join.proofs.joining.copied_names.Given as goal

abbrev pub invariant-loop-name : goal.invariant-loop-name
invariant-loop-name l = l.copied ≡ take l.name-index l.names
