use Rattle.std.proofs.Common.{length, ◌-◌, ◌≡◌, ◌≤◌, ◌+◌, drop}
use Rattle.schema_text.specs.Positions.{below_count}
use Rattle.schema_text.proofs.reading.count_below.Given as goal

abbrev pub invariant-loop-count : goal.invariant-loop-count
invariant-loop-count l = record {
  value : l.count + below_count l.name (drop l.count l.tables) ≡ below_count l.name l.tables;
  within : l.count ≤ length l.tables;
}

abbrev pub decreases-loop-count : goal.decreases-loop-count
decreases-loop-count l = length l.tables - l.count
