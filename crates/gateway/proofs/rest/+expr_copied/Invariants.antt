use Rattle.std.proofs.Common.{◌+◌, ◌*◌}
use Rattle.qsql_request.specs.Views.{form}
use Rattle.qsql_values.proofs.ShapeLemmas.{form_size}
use Rattle.gateway.proofs.rest.+expr_copied.Given as goal

abbrev pub decreases-expr_into : goal.decreases-expr_into
decreases-expr_into l = 3 * form_size (form l.expr.now)

abbrev pub decreases-expr_copied : goal.decreases-expr_copied
decreases-expr_copied l = 3 * form_size (form l.expr.now) + 1

abbrev pub decreases-two_into : goal.decreases-two_into
decreases-two_into l = 3 * (form_size (form l.left.now) + form_size (form l.right.now)) + 2
