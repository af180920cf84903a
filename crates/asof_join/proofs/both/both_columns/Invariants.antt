use Rattle.std.proofs.Common.{◌≡◌, map, take}
use Rattle.q_values.specs.Contents.{Contents}
use Rattle.asof_join.specs.Heads.{both_atoms}
use Rattle.asof_join.specs.Views.{grid_in}
use Rattle.asof_join.proofs.both.both_columns.Given as goal

abbrev pub invariant-loop-name : goal.invariant-loop-name
invariant-loop-name l = map (λ (c : Contents). c.atoms) l.columns.items ≡ map (both_atoms (grid_in l.left) (grid_in l.right)) (take l.name-index l.names)
