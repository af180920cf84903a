use Rattle.std.proofs.Common.{◌≡◌, ◌≤◌}
use Rattle.qsql_request.specs.Unbuilt.{head_of, mentioned}
use Rattle.qsql_request.specs.Views.{form}
use Rattle.qsql_request.proofs.request.Expr.TheLaws.{the_size}
use Rattle.qsql_request.proofs.mentions.+first_name.Given as goal

abbrev pub invariant-loop-at : goal.invariant-loop-at
invariant-loop-at l = record {
  within : the_size l.at ≤ the_size l.initial.expr;
  first : head_of (mentioned (form l.at)) ≡ head_of (mentioned (form l.initial.expr));
}

abbrev pub decreases-loop-at : goal.decreases-loop-at
decreases-loop-at l = the_size l.at
