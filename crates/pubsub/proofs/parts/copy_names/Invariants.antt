use Rattle.std.proofs.Common.{◌≡◌, take}
use Rattle.pubsub.proofs.parts.copy_names.Given as goal

abbrev pub invariant-loop-i : goal.invariant-loop-i
invariant-loop-i l = l.copied ≡ take l.i l.names
