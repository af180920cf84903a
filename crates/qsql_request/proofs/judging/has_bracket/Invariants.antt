use Rattle.std.proofs.Common.{◌≡◌, drop}
use Rattle.std.specs.List.{list_any}
use Rattle.std.proofs.Common.{◌==◌}
use Rattle.qsql_request.proofs.judging.has_bracket.Given as goal

abbrev pub invariant-loop-b : goal.invariant-loop-b
invariant-loop-b l = list_any (λ x. x == 91) (drop l.b-index l.text) ≡ list_any (λ x. x == 91) l.text
