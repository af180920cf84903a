use Rattle.std.proofs.Common.{◌≡◌, ◌⊎◌, ◌<◌, ◌≤◌, ℕ, length, slice_index}
use Rattle.outside_mem.proofs.mem_file.put_range.Given as goal

abbrev pub invariant-loop-k : goal.invariant-loop-k
invariant-loop-k l =
    ((j : ℕ) → (j < l.from) ⊎ (l.to ≤ j) → slice_index l.bytes j ≡ slice_index l.fn.bytes j)
    × ((j : ℕ) → (slice_index l.bytes j ≡ slice_index l.fn.bytes j) ⊎ (slice_index l.bytes j ≡ slice_index l.kept j))
    × ((j : ℕ) → j < length l.bytes → l.from ≤ j → j < l.k → slice_index l.bytes j ≡ slice_index l.kept j)
