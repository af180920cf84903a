use Rattle.std.proofs.Common.{◌≡◌, ◌≤◌, map, drop}
use Rattle.qsql_tokens.specs.Tokens.{only_tokens}
use Rattle.qsql_tokens.specs.Views.{placed_of}
use Rattle.qsql_tokens.specs.Limits.{nests}
use Rattle.qsql_tokens.proofs.limits.nests_deep.Given as goal

abbrev pub invariant-loop-placed : goal.invariant-loop-placed
invariant-loop-placed l = record {
  rest : nests l.depth (only_tokens (map placed_of (drop l.placed-index l.tokens))) ≡ nests 0 (only_tokens (map placed_of l.tokens));
  few : l.depth ≤ 64;
}
