use Rattle.std.proofs.Common.{◌≡◌, length, take, drop, map}
use Rattle.outside_api.specs.Disk.{in_state, after_fault}
use Rattle.outside_mem.proofs.mem_file.lose_all.Given as goal

abbrev pub invariant-loop-range : goal.invariant-loop-range
invariant-loop-range l =
    (take l.range-index l.ranges ≡ map (in_state after_fault) (take l.range-index l.fn.ranges)) × (drop l.range-index l.ranges ≡ drop l.range-index l.fn.ranges) × (length l.ranges ≡ length l.fn.ranges)
