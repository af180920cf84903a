-- What an access to a plant under a lock shows, and what a call that takes the lock once makes of it.
use Rattle.std.specs.Prelude.{◌≡◌, ℕ, ℤ, ◌+◌, ◌<◌, ◌^◌, false, List, [], Option, Some, None, Result}
use Rattle.atomic_table.specs.Seated.{TableId}
use Rattle.outside_api.specs.Disk.{DiskView}
use Rattle.q_values.specs.declared.refusal.NoMemory.{NoMemory}
use Rattle.day_rows.specs.declared.entry.Entry.{Entry}
use Rattle.day_rows.specs.declared.schema.Shape.{Shape}
use Rattle.plant_memory.specs.Chronicle.{by_of, last_fault}
use Rattle.plant_memory.specs.Frame.{Frame}
use Rattle.plant_memory.specs.Memory.{SnapshotView, TailView}
use Rattle.plant_memory.specs.declared.request.UpdRequest.{UpdRequest}
use Rattle.plant_lock.specs.Entries.{own}
use Rattle.plant_lock.specs.Told.{Told}
use Rattle.plant_core.specs.Access.{AccessView, Home, Updates, Ticks, Snaps, Tails, next_count}
use Rattle.plant_core.specs.declared.access.TickTurn.{TickTurn}
use Rattle.plant_core.specs.declared.access.TickTurn.TheVariants as t
use Rattle.plant_core.specs.declared.access.UpdTurn.{UpdTurn}
use Rattle.plant_core.specs.declared.access.UpdTurn.TheVariants as u

-- the plant under this lock, loaded from a disk as it was then
abbrev pub locked : DiskView → TableId → Home
locked origin lock = record { origin = origin; lock = Some lock }

-- what a pass shows; others make entries beside it
abbrev pub shown_pass : Frame → Home → Told Entry → ℕ → ℕ → AccessView
shown_pass frame home pass snapshots ticks = record {
  by = pass.number;
  frame = frame;
  alone = false;
  seen = pass.seen;
  mine = pass.mine;
  snapshots = snapshots;
  ticks = ticks;
  home = home;
}

-- the value of an access under a lock: what its pass shows, the plant's disk as it was when the plant was loaded, and the lock
pub record SharedView (D : Type 0) : Type 0 where
  pub by : ℕ
  pub frame : Frame
  pub seen : List Entry
  pub mine : List Entry
  pub snapshots : ℕ
  pub ticks : ℕ
  pub origin : D
  pub lock : TableId

-- what it shows as an access
abbrev pub shown_shared : {D : Type 0} → (D → DiskView) → SharedView D → AccessView
shown_shared shown shared = record {
  by = shared.by;
  frame = shared.frame;
  alone = false;
  seen = shared.seen;
  mine = shared.mine;
  snapshots = shared.snapshots;
  ticks = shared.ticks;
  home = locked (shown shared.origin) shared.lock;
}

-- the value of an access that keeps this pass
abbrev pub shared_of : {D : Type 0} → Frame → D → TableId → Told Entry → ℕ → ℕ → SharedView D
shared_of frame origin lock pass snapshots ticks = record {
  by = pass.number;
  frame = frame;
  seen = pass.seen;
  mine = pass.mine;
  snapshots = snapshots;
  ticks = ticks;
  origin = origin;
  lock = lock;
}

-- the same of a pass that is there, or isn't for the time of a call
abbrev pub shared_by : {D : Type 0} → Frame → D → TableId → Option (Told Entry) → ℕ → ℕ → SharedView D
shared_by frame origin lock (Some pass) snapshots ticks = shared_of frame origin lock pass snapshots ticks
shared_by frame origin lock None snapshots ticks =
    shared_of frame origin lock (record { lock = lock; number = 0; latest = 0; seen = []; mine = [] }) snapshots ticks

-- the index of the last fault that the pass made is this one, if it made one
abbrev pub IsLatest : Told Entry → ℕ → Type 0
IsLatest pass latest = (place : ℕ) → last_fault pass.number pass.seen ≡ Some place → latest ≡ place

-- a pass of this lock, which has seen exactly those entries of its number that it made
pub record IsPass (lock : TableId) (pass : Told Entry) : Type 0 where
  pub of_lock : pass.lock ≡ lock
  pub few : pass.number + 1 < 2 ^ 64
  pub own_is : own by_of pass.number pass.seen ≡ pass.mine

-- what an access keeps: a pass of its lock, the index of that pass's last fault, and the tables of the lock's plant
pub record IsShared (lock : TableId) (frame : Frame) (pass : Option (Told Entry)) (latest : ℕ) (schema : List Shape) : Type 0 where
  pub told : Told Entry
  pub kept : pass ≡ Some told
  pub pass_is : IsPass lock told
  pub latest_is : IsLatest told latest
  pub schema_is : schema ≡ frame.schema

-- the index of the pass's last fault after an update
abbrev pub latest_update : ℕ → UpdTurn → ℕ
latest_update latest (u.Logged rolled place) = latest
latest_update latest (u.Refused length why) = latest
latest_update latest (u.Failed rolled place) = place

-- the same after a tick
abbrev pub latest_tick : ℕ → TickTurn → ℕ
latest_tick latest (t.Quiet length) = latest
latest_tick latest (t.Rolled place) = latest
latest_tick latest (t.Failed place) = place
latest_tick latest t.NoMemory = latest

-- what an update makes of a pass, whatever its access counts
abbrev pub UpdatesPass : Frame → Home → Told Entry → Told Entry → UpdRequest → ℤ → UpdTurn → Type 0
UpdatesPass frame home old new request now turn =
    (snapshots ticks : ℕ) → Updates (shown_pass frame home old snapshots ticks) (shown_pass frame home new snapshots ticks) request now turn

-- what a tick makes of a pass, whatever its access counts
abbrev pub TicksPass : Frame → Home → Told Entry → Told Entry → ℤ → TickTurn → Type 0
TicksPass frame home old new now turn =
    (snapshots ticks : ℕ) → Ticks (shown_pass frame home old snapshots ticks) (shown_pass frame home new snapshots (next_count ticks)) now turn

-- what a snapshot makes of a pass, whatever its access counts
abbrev pub SnapsPass : Frame → Home → Told Entry → Told Entry → Result SnapshotView NoMemory → Type 0
SnapsPass frame home old new answer =
    (snapshots ticks : ℕ) → Snaps (shown_pass frame home old snapshots ticks) (shown_pass frame home new (next_count snapshots) ticks) answer

-- what a tail from this index on makes of a pass, whatever its access counts
abbrev pub TailsPass : Frame → Home → Told Entry → Told Entry → ℕ → Result TailView NoMemory → Type 0
TailsPass frame home old new from answer =
    (snapshots ticks : ℕ) → Tails (shown_pass frame home old snapshots ticks) (shown_pass frame home new snapshots ticks) from answer
