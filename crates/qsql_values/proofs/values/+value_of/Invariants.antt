use Rattle.std.proofs.Common.{◌+◌, ◌*◌}
use Rattle.qsql_request.specs.Views.{form}
use Rattle.qsql_values.proofs.ShapeLemmas.{form_size}
use Rattle.qsql_values.proofs.values.+value_of.Given as goal

abbrev pub decreases-value_into : goal.decreases-value_into
decreases-value_into l = 3 * form_size (form l.expr.now)

abbrev pub decreases-value_of : goal.decreases-value_of
decreases-value_of l = 3 * form_size (form l.expr.now) + 1

abbrev pub decreases-two_into : goal.decreases-two_into
decreases-two_into l = 3 * (form_size (form l.left.now) + form_size (form l.right.now)) + 2

abbrev pub decreases-both_into : goal.decreases-both_into
decreases-both_into l = 3 * (form_size (form l.left.now) + form_size (form l.right.now)) + 2
