use Rattle.std.proofs.Common.{length, ◌-◌, ◌≡◌, ◌≤◌, ◌+◌, drop}
use Rattle.qsql_tokens.specs.Tokens.{front, is_name_byte}
use Rattle.qsql_tokens.proofs.characters.name_len.Given as goal

abbrev pub invariant-loop-len : goal.invariant-loop-len
invariant-loop-len l = record {
  value : l.len + front is_name_byte (drop l.len l.bytes) ≡ front is_name_byte l.bytes;
  within : l.len ≤ length l.bytes;
}

abbrev pub decreases-loop-len : goal.decreases-loop-len
decreases-loop-len l = length l.bytes - l.len
