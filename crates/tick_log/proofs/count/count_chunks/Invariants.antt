use Rattle.std.proofs.Common.{◌≡◌, ◌≤◌, List, take}
use Rattle.day_rows.specs.Day.{total_rows}
use Rattle.day_rows.specs.declared.entry.Entry.{Entry}
use Rattle.tick_log.specs.Replay.{AreChunks}
use Rattle.tick_log.proofs.count.count_chunks.Given as goal

abbrev pub invariant-loop-i : goal.invariant-loop-i
invariant-loop-i l = record {
  entries : List Entry;
  good : AreChunks l.schema 0 (take l.i l.records) entries;
  rows_are : l.rows ≡ total_rows entries;
  bounded : l.rows ≤ 4294967295;
}
