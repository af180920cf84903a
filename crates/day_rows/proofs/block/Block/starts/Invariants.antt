use Rattle.std.proofs.Common.{◌≡◌, ◌<◌, ℕ, take, length, get_or, vec_len}
use Rattle.std.specs.List.{sum_by}
use Rattle.day_rows.specs.Joined.{rows_in}
use Rattle.day_rows.proofs.block.Block.starts.Given as goal

abbrev pub invariant-loop-mark : goal.invariant-loop-mark
invariant-loop-mark l = record {
  starts : (t : ℕ) → t < length l.kinds → get_or l.starts.items t 0 ≡ sum_by (rows_in t) (take l.mark-index (take l.n l.self));
  size : length l.starts.items ≡ length l.kinds;
  count : vec_len l.starts ≡ length l.kinds;
}
