use Rattle.std.proofs.Common.{◌≡◌, take, map}
use Rattle.q_values.specs.Contents.{Contents}
use Rattle.day_rows.proofs.admits.have_kinds.Given as goal

abbrev pub invariant-loop-i : goal.invariant-loop-i
invariant-loop-i l = take l.i (map (λ (c : Contents). c.kind) l.columns) ≡ take l.i l.kinds
