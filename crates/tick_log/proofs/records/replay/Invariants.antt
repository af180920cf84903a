use Rattle.std.proofs.Common.{◌≡◌, ◌≤◌, take}
use Rattle.day_rows.specs.Day.{total_rows}
use Rattle.tick_log.specs.Replay.{AreChunks}
use Rattle.tick_log.proofs.records.replay.Given as goal

abbrev pub invariant-loop-i : goal.invariant-loop-i
invariant-loop-i l = record {
  good : AreChunks l.schema 0 (take l.i l.records) l.entries;
  rows_are : l.rows ≡ total_rows l.entries;
  bounded : l.rows ≤ 4294967295;
}
