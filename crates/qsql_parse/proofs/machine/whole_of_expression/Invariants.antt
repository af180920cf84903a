-- What is left comes to what the whole comes to.
use Rattle.std.proofs.Common.{◌≡◌, length}
use Rattle.qsql_request.specs.Views.{form}
use Rattle.qsql_parse.specs.Machine.{whole_expr}
use Rattle.qsql_parse.specs.States.{stack_of}
use Rattle.qsql_parse.proofs.machine.whole_of_expression.Given as goal

abbrev pub invariant-loop-stack : goal.invariant-loop-stack
invariant-loop-stack l = whole_expr (stack_of l.stack) (form l.expr) ≡ whole_expr (stack_of l.initial.stack) (form l.initial.expr)

abbrev pub decreases-loop-stack : goal.decreases-loop-stack
decreases-loop-stack l = length l.stack.frames.items
