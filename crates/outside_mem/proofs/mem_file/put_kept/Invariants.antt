use Rattle.std.proofs.Common.{◌≡◌, ◌⊎◌, ◌<◌, ℕ, length, take, slice_index}
use Rattle.std.specs.List.{AllByRecursion}
use Rattle.outside_api.specs.Disk.{IsKeptAt}
use Rattle.outside_mem.specs.Ranges.{IsNotKept}
use Rattle.outside_mem.proofs.mem_file.put_kept.Given as goal

abbrev pub invariant-loop-range : goal.invariant-loop-range
invariant-loop-range l =
    ((j : ℕ) → j < length l.bytes → IsKeptAt j (take l.range-index l.ranges) → slice_index l.bytes j ≡ slice_index l.kept j)
    × ((j : ℕ) → (slice_index l.bytes j ≡ slice_index l.fn.bytes j) ⊎ (slice_index l.bytes j ≡ slice_index l.kept j))
    × (AllByRecursion IsNotKept (take l.range-index l.ranges) → l.bytes ≡ l.fn.bytes)
