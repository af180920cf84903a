use Rattle.std.proofs.Common.{◌≡◌, ◌⊎◌, ◌<◌, ◌≤◌, ◌+◌, ◌-◌, ℕ, length, slice_index}
use Rattle.outside_mem.proofs.mem_file.put_back.Given as goal

abbrev pub invariant-loop-k : goal.invariant-loop-k
invariant-loop-k l =
    ((j : ℕ) → (j < l.at + l.kept) ⊎ (l.at + l.size ≤ j) → slice_index l.bytes j ≡ slice_index l.fn.bytes j)
    × ((j : ℕ) → j < length l.bytes → l.at + l.kept ≤ j → j < l.k → slice_index l.bytes j ≡ slice_index l.before (j - l.at))
