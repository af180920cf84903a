use Rattle.std.proofs.Common.{◌≡◌, ℕ, List, ◌++◌, take, map}
use Rattle.asof_join.specs.Asof.{column_as_of, column_named}
use Rattle.asof_join.specs.Views.{grid_in}
use Rattle.asof_join.proofs.joining.push_columns.Given as goal

abbrev pub invariant-loop-name : goal.invariant-loop-name
invariant-loop-name l = l.shown ≡ l.initial.shown ++ map (λ (name : List ℕ). column_as_of l.found (column_named (grid_in l.right) name)) (take l.name-index l.names)
