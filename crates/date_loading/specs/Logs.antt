-- What a load of a date's log gives.
use Rattle.std.specs.Prelude.{◌≡◌, ℕ, ℤ, List, None, map}
use Rattle.outside_api.specs.Disk.{FileState}
use Rattle.gated_journal.specs.Journal.{JournalView, Holds}
use Rattle.day_rows.specs.Day.{Opened}
use Rattle.day_rows.specs.declared.entry.Entry.{Entry}
use Rattle.day_rows.specs.declared.schema.Shape.{Shape}
use Rattle.tick_log.specs.Replay.{AreChunks, AreCounts}
use Rattle.tick_log.specs.declared.day.Replayed.{Replayed}

-- an open day of the schema's tables with this date, and the counts of its updates
pub record IsDayOn (schema : List Shape) (date : ℤ) (opened : Opened) (counts : Replayed) : Type 0 where
  pub date_is : opened.day.date ≡ date
  pub kinds : opened.day.kinds ≡ map (λ shape. shape.kinds) schema
  pub counted : AreCounts opened.day.updates counts

-- the journal's file has the chunks of these updates, in each image
pub record IsLoadedLog (schema : List Shape) (files : ℕ → FileState) (log : JournalView) (updates : List Entry) : Type 0 where
  pub payloads : List (List ℕ)
  pub chunks : AreChunks schema 0 payloads updates
  pub holds : Holds log (files log.file) payloads None
