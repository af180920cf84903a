use Rattle.std.proofs.Common.{◌≡◌, drop}
use Rattle.asof_join.specs.Judged.{first_absent}
use Rattle.asof_join.proofs.checking.absent_among.Given as goal

abbrev pub invariant-loop-key : goal.invariant-loop-key
invariant-loop-key l = first_absent l.names (drop l.key-index l.keys) ≡ first_absent l.names l.keys
