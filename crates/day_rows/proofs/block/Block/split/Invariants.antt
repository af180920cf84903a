use Rattle.std.proofs.Common.{◌≡◌, ◌++◌, ◌<◌, ℕ, take, drop, length, get_or, vec_len}
use Rattle.std.specs.List.{sum_by}
use Rattle.day_rows.specs.Joined.{rows_in}
use Rattle.day_rows.proofs.block.Block.split.Given as goal

abbrev pub invariant-loop-i : goal.invariant-loop-i
invariant-loop-i l = record {
  found : l.found.items ≡ l.fn.entries.items ++ drop l.from (take l.i (take l.to l.self));
  starts : (t : ℕ) → t < length l.kinds → get_or l.starts.items t 0 ≡ sum_by (rows_in t) (take l.i (take l.to l.self));
  size : length l.starts.items ≡ length l.kinds;
  count : vec_len l.starts ≡ length l.kinds;
}
