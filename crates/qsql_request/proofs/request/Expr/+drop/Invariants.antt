-- What is left is no deeper than the whole.
use Rattle.std.proofs.Common.{◌≤◌}
use Rattle.qsql_request.proofs.request.Expr.TheLaws.{the_size}
use Rattle.qsql_request.proofs.request.Expr.+drop.Given as goal

abbrev pub invariant-loop-self : goal.invariant-loop-self
invariant-loop-self l = the_size l.self ≤ the_size l.initial.self

abbrev pub decreases-loop-self : goal.decreases-loop-self
decreases-loop-self l = the_size l.self
