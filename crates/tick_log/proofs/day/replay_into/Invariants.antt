use Rattle.std.proofs.Common.{◌≡◌, ◌≤◌, ◌<◌, length, take}
use Rattle.day_rows.specs.Day.{total_rows}
use Rattle.tick_log.specs.Chunk.{no_pass}
use Rattle.tick_log.specs.Replay.{AreChunks, top_by}
use Rattle.tick_log.proofs.day.replay_into.Given as goal

abbrev pub invariant-loop-i : goal.invariant-loop-i
invariant-loop-i l = record {
  good : AreChunks l.schema 0 (take l.i l.records) l.day.day.updates;
  kinds_are : l.day.day.kinds ≡ l.fn.day.day.kinds;
  date_is : l.day.day.date ≡ l.fn.day.day.date;
  rows_are : l.rows ≡ total_rows l.day.day.updates;
  bounded : l.rows ≤ 4294967295;
  number_is : length l.day.day.updates ≡ l.i;
  greatest : l.top_by ≡ top_by l.day.day.updates;
  below : l.top_by < no_pass;
}
