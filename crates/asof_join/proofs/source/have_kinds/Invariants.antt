use Rattle.std.proofs.Common.{◌≡◌, Some, length, take, map}
use Rattle.q_values.specs.Contents.{Contents}
use Rattle.asof_join.proofs.source.have_kinds.Given as goal

abbrev pub invariant-loop-i : goal.invariant-loop-i
invariant-loop-i l = map (λ (c : Contents). Some c.kind) (take l.i l.columns) ≡ take l.i l.shown
