use Rattle.std.proofs.Common.{◌≡◌, ◌++◌, take}
use Rattle.asof_join.specs.Asof.{added_names}
use Rattle.asof_join.proofs.joining.push_added_names.Given as goal

abbrev pub invariant-loop-name : goal.invariant-loop-name
invariant-loop-name l = l.shown ≡ l.initial.shown ++ added_names l.keys (take l.name-index l.names)
