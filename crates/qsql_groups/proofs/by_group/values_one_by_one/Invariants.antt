use Rattle.std.proofs.Common.{◌≡◌, take}
use Rattle.std.specs.List.{flat_map}
use Rattle.qsql_request.specs.Views.{form}
use Rattle.qsql_groups.specs.Groups.{value_by_group, items_over, parts_of}
use Rattle.qsql_groups.proofs.by_group.values_one_by_one.Given as goal

abbrev pub invariant-loop-group : goal.invariant-loop-group
invariant-loop-group l = l.items ≡ record (value_by_group l.grouping (form l.expr)) { atoms = flat_map (items_over l.grouping.rows (form l.expr)) (take l.group (parts_of l.grouping)) }
