use Rattle.std.proofs.Common.{◌≡◌, ◌-◌, ℕ, List, ◌++◌, length, map}
use Rattle.qsql_tokens.specs.Tokens.{Placed, AreTokens, IsTokenFault, past_blanks}
use Rattle.qsql_tokens.specs.Views.{placed_of}
use Rattle.qsql_tokens.proofs.lexing.read_tokens.Given as goal

-- what is read from here on follows the tokens so far
abbrev pub invariant-loop-offset : goal.invariant-loop-offset
invariant-loop-offset l = (at : ℕ) × record {
  here : l.offset ≡ past_blanks l.text at;
  tokens : (rest : List Placed) → AreTokens l.text at rest → AreTokens l.text 0 (map placed_of l.tokens.items ++ rest);
  fault : (fault : ℕ) → IsTokenFault l.text at fault → IsTokenFault l.text 0 fault;
}

abbrev pub decreases-loop-offset : goal.decreases-loop-offset
decreases-loop-offset l = length l.text - l.offset
