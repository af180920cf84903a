-- What is left comes to what the whole comes to.
use Rattle.std.proofs.Common.{◌≡◌, length}
use Rattle.qsql_tokens.specs.Views.{token_of}
use Rattle.qsql_request.specs.Views.{form}
use Rattle.qsql_parse.specs.Machine.{step_close}
use Rattle.qsql_parse.specs.States.{stack_of}
use Rattle.qsql_parse.proofs.expression_steps.after_expression.Given as goal

abbrev pub invariant-loop-stack : goal.invariant-loop-stack
invariant-loop-stack l = step_close (stack_of l.stack) (form l.expr) (token_of l.token) ≡ step_close (stack_of l.initial.stack) (form l.initial.expr) (token_of l.token)

abbrev pub decreases-loop-stack : goal.decreases-loop-stack
decreases-loop-stack l = length l.stack.frames.items
