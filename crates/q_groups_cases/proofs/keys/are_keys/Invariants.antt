use Rattle.std.proofs.Common.{◌≡◌, take, length, All}
use Rattle.q_values.specs.Contents.{Contents}
use Rattle.q_groups_cases.proofs.keys.are_keys.Given as goal

abbrev pub invariant-loop-column : goal.invariant-loop-column
invariant-loop-column l = All (λ (c : Contents). length c.atoms ≡ l.rows) (take l.column-index l.columns)
