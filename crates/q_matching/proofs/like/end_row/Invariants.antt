use Rattle.std.proofs.Common.{◌≡◌, ℕ, false, get_or, vec_len}
use Rattle.q_matching.proofs.like.end_row.Given as goal

abbrev pub invariant-loop : goal.invariant-loop
invariant-loop l = record {
  count : vec_len l.row ≡ l.counter;
  places : (k : ℕ) → get_or l.row.items k false ≡ false;
}
