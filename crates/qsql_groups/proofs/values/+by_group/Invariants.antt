use Rattle.std.proofs.Common.{◌+◌, ◌*◌}
use Rattle.qsql_request.specs.Views.{form}
use Rattle.qsql_values.proofs.ShapeLemmas.{form_size}
use Rattle.qsql_groups.proofs.values.+by_group.Given as goal

abbrev pub decreases-by_group_into : goal.decreases-by_group_into
decreases-by_group_into l = 3 * form_size (form l.expr.now)

abbrev pub decreases-by_group : goal.decreases-by_group
decreases-by_group l = 3 * form_size (form l.expr.now) + 1

abbrev pub decreases-two_into : goal.decreases-two_into
decreases-two_into l = 3 * (form_size (form l.left.now) + form_size (form l.right.now)) + 2
