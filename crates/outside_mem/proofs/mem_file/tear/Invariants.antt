use Rattle.std.proofs.Common.{◌≡◌, ◌<◌, ℕ, length, take, slice_index}
use Rattle.outside_api.specs.Disk.{IsDurableAt}
use Rattle.outside_mem.specs.Ranges.{IsInDoubt}
use Rattle.outside_mem.proofs.mem_file.tear.Given as goal

abbrev pub invariant-loop-range : goal.invariant-loop-range
invariant-loop-range l =
    ((j : ℕ) → IsDurableAt j (take l.range-index l.ranges) → slice_index l.bytes j ≡ slice_index l.kept j)
    × ((j : ℕ) → j < length l.bytes → IsInDoubt j (take l.range-index l.ranges) → slice_index l.bytes j ≡ l.byte)
