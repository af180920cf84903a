-- A plant whose disk may go to another thread may go there too, and a lock round it may be shared by threads. Each layer is
-- shown by itself, since a `search` through all of them runs out of steps.
use denote.RattleType.{RattleType}
use denote.Param.Send.{IsSend, IsSync, sendable}
use Rattle.std.proofs.Crossing.{crosses}
use Rattle.atomic_table.proofs.badge.Badge.TheSendSync as badge
use Rattle.atomic_table.proofs.send_lease.SendLease.TheSendSync as lease
use Rattle.atomic_table.proofs.shared.Shared.TheSendSync as table
use Rattle.day_rows.specs.contracts.block.Block as Block
use Rattle.day_rows.specs.contracts.block.SharedBlock as SharedBlock
use Rattle.day_rows.specs.contracts.blocks.Blocks as Blocks
use Rattle.day_rows.specs.contracts.blocks.Piece as Piece
use Rattle.day_rows.specs.contracts.closed_day.ClosedDay as ClosedDay
use Rattle.day_rows.specs.contracts.entry.Entry as Entry
use Rattle.day_rows.specs.contracts.open_day.OpenDay as OpenDay
use Rattle.day_rows.specs.contracts.store.Store as Store
use Rattle.day_rows.specs.contracts.table.Table as Table
use Rattle.day_rows.specs.contracts.trace.Trace as Trace
use Rattle.day_rows.specs.contracts.updates.Updates as Updates
use Rattle.outside_api.specs.declared.disk.Disk as disk
use Rattle.plant_core.specs.contracts.plant.Plant as Plant
use Rattle.plant_lock.specs.contracts.lock.PlantLock as PlantLock
use Rattle.plant_lock.specs.contracts.sleepers.Sleepers as Sleepers
use Rattle.plant_lock.specs.declared.chronicle.Chronicle as chronicle
use Rattle.plant_memory.specs.contracts.faults.Faults as Faults
use Rattle.plant_memory.specs.contracts.history.Ended as Ended
use Rattle.plant_memory.specs.contracts.history.History as History
use Rattle.plant_memory.specs.contracts.memory.Memory as Memory
use Rattle.q_values.specs.contracts.column.Column as Column
use Rattle.q_values.specs.contracts.vector.Vector as Vector

Column-send : IsSend Column.the_row
Column-send = search (sendable, crosses) depth 60 fits 20000

Column-sync : IsSync Column.the_row
Column-sync = search (sendable, crosses) depth 60 fits 20000

Vector-send : IsSend Vector.the_row
Vector-send = let a = Column-send in search (sendable, crosses) depth 60 fits 20000

Vector-sync : IsSync Vector.the_row
Vector-sync = let a = Column-sync in search (sendable, crosses) depth 60 fits 20000

Table-send : IsSend Table.the_row
Table-send = let a = Vector-send in search (sendable, crosses) depth 60 fits 20000

Table-sync : IsSync Table.the_row
Table-sync = let a = Vector-sync in search (sendable, crosses) depth 60 fits 20000

Trace-send : IsSend (Trace.the_row Entry.the_row)
Trace-send = search (sendable, crosses) depth 60 fits 20000

Trace-sync : IsSync (Trace.the_row Entry.the_row)
Trace-sync = search (sendable, crosses) depth 60 fits 20000

Block-send : IsSend Block.the_row
Block-send = let a = Table-send in let b = Trace-send in search (sendable, crosses) depth 60 fits 20000

Block-sync : IsSync Block.the_row
Block-sync = let a = Table-sync in let b = Trace-sync in search (sendable, crosses) depth 60 fits 20000

SharedBlock-send : IsSend SharedBlock.the_row
SharedBlock-send = let a = Block-send in let b = Block-sync in search (sendable, crosses) depth 60 fits 20000

SharedBlock-sync : IsSync SharedBlock.the_row
SharedBlock-sync = let a = Block-send in let b = Block-sync in search (sendable, crosses) depth 60 fits 20000

Piece-send : IsSend Piece.the_row
Piece-send = let a = SharedBlock-send in let b = SharedBlock-sync in search (sendable, crosses) depth 60 fits 20000

Piece-sync : IsSync Piece.the_row
Piece-sync = let a = SharedBlock-send in let b = SharedBlock-sync in search (sendable, crosses) depth 60 fits 20000

Blocks-send : IsSend Blocks.the_row
Blocks-send = let a = Piece-send in let b = SharedBlock-send in search (sendable, crosses) depth 60 fits 20000

Blocks-sync : IsSync Blocks.the_row
Blocks-sync = let a = Piece-sync in let b = SharedBlock-sync in search (sendable, crosses) depth 60 fits 20000

Store-send : IsSend Store.the_row
Store-send = let a = Blocks-send in let b = Block-send in search (sendable, crosses) depth 60 fits 20000

Store-sync : IsSync Store.the_row
Store-sync = let a = Blocks-sync in let b = Block-sync in search (sendable, crosses) depth 60 fits 20000

Updates-send : IsSend Updates.the_row
Updates-send = let a = Store-send in search (sendable, crosses) depth 120 fits 20000

Updates-sync : IsSync Updates.the_row
Updates-sync = let a = Store-sync in search (sendable, crosses) depth 120 fits 20000

OpenDay-send : IsSend OpenDay.the_row
OpenDay-send = let a = Updates-send in search (sendable, crosses) depth 60 fits 20000

ClosedDay-send : IsSend ClosedDay.the_row
ClosedDay-send = let a = Updates-send in search (sendable, crosses) depth 60 fits 20000

ClosedDay-sync : IsSync ClosedDay.the_row
ClosedDay-sync = let a = Updates-sync in search (sendable, crosses) depth 60 fits 20000

Faults-send : IsSend Faults.the_row
Faults-send = search (sendable, crosses) depth 60 fits 20000

Faults-sync : IsSync Faults.the_row
Faults-sync = search (sendable, crosses) depth 60 fits 20000

Ended-send : IsSend Ended.the_row
Ended-send = let a = ClosedDay-send in let b = ClosedDay-sync in let c = Faults-send in let d = Faults-sync in search (sendable, crosses) depth 60 fits 20000

History-send : IsSend History.the_row
History-send = let a = Ended-send in let b = OpenDay-send in let c = Faults-send in search (sendable, crosses) depth 60 fits 20000

Memory-send : IsSend Memory.the_row
Memory-send = let a = History-send in search (sendable, crosses) depth 60 fits 20000

module _ (D : RattleType) (g : disk.Ghosts D.Denot) where
  pub Plant-send : IsSend D → IsSend (Plant.the_row D g)
  Plant-send s = let a = Memory-send in search (sendable, crosses) depth 60 fits 20000

Sleepers-sync : IsSync Sleepers.the_row
Sleepers-sync = search (sendable, crosses) depth 60 fits 20000

module _ (S E F : RattleType) (c : chronicle.Ghosts S.Denot E.Denot F.Denot) where
  pub PlantLock-sync : IsSend S → IsSync (PlantLock.the_row S E F c)
  PlantLock-sync s =
      let a = Sleepers-sync in search (table.the_sync, lease.the_sync, sendable, crosses) depth 60 fits 20000

-- all that `search` needs to send a closure which borrows a lock round a plant, and has a pass
pub ruleset locked = (PlantLock-sync, Plant-send, badge.the_send, sendable, crosses)
