-- What a server did: the sessions that it served over one plant.
use Rattle.std.specs.Prelude.{◌≡◌, ◌≢◌, ◌<◌, ℕ, List, [], ◌∷◌, length, map, All, Some, IsPermutation}
use mathlib.Core.List.{IsPrefix}
use Rattle.atomic_table.specs.Seated.{TableId}
use Rattle.day_rows.specs.declared.entry.Entry.{Entry}
use Rattle.outside_api.specs.Counts.{counted}
use Rattle.outside_api.specs.Disk.{DiskView}
use Rattle.outside_api.specs.Link.{LinkView}
use Rattle.outside_api.specs.Told.{told}
use Rattle.plant_core.specs.Plant.{PlantView}
use Rattle.plant_lock.specs.Told.{Lock, Told}
use Rattle.plant_memory.specs.Frame.{Frame}
use Rattle.plant_memory.specs.Memory.{MemoryView}
use Rattle.plant_serving.specs.declared.end.ServeEnd.{ServeEnd}
use Rattle.plant_serving.specs.declared.end.ServeEnd.TheVariants as v
use Rattle.plant_shared.specs.Shared.{IsPass, locked}
use Rattle.program_outside.specs.Outside.{OutsideView, Back}
use Rattle.q_values.specs.declared.limits.Limits.{Limits}
use Rattle.session.specs.declared.end.End.{End}
use Rattle.session.specs.declared.end.End.TheVariants as e
use Rattle.shared_sessions.specs.Sessions.{Line, IsUnused, IsServed}

-- what the sessions of a server have in common: the plant's frame, its disk and its chronicle as they were when it was put under the
-- lock, the lock, and the limits
pub record Setting (D : Type 0) : Type 0 where
  pub frame : Frame
  pub origin : D
  pub loaded : List Entry
  pub lock : TableId
  pub limits : Limits

abbrev pub setting_of : {D : Type 0} → Lock (PlantView D) → Limits → Setting D
setting_of lock limits = record {
  frame = lock.made.memory.frame;
  origin = lock.made.origin;
  loaded = lock.made.memory.entries;
  lock = lock.id;
  limits = limits;
}

-- a session that was accepted: its devices as they were made, and its pass as it was drawn
pub record Accepted : Type 0 where
  pub before : Line
  pub began : Told Entry

-- a session that has ended: also its devices as they were handed back, its pass as it was left, and why it ended
pub record Session : Type 0 where
  pub accepted : Accepted
  pub after : Line
  pub pass : Told Entry
  pub end : End

-- a session begins with devices of its own, through which nothing has passed, and with a pass of the lock that has made nothing and
-- has seen at least what was loaded
pub record Begins {D : Type 0} (setting : Setting D) (accepted : Accepted) : Type 0 where
  pub unused : IsUnused accepted.before
  pub pass_is : IsPass setting.lock accepted.began
  pub unmade : accepted.began.mine ≡ []
  pub knows : IsPrefix setting.loaded accepted.began.seen

-- what was served between these devices and passes, through the lock
abbrev pub IsEnded : {D : Type 0} → (D → DiskView) → Setting D → Accepted → Line → Told Entry → End → Type 0
IsEnded shown setting accepted after pass end =
    IsServed setting.limits setting.frame (locked (shown setting.origin) setting.lock) accepted.began pass accepted.before after end

-- a session that began so was served through the lock
pub record WasServed {D : Type 0} (shown : D → DiskView) (setting : Setting D) (session : Session) : Type 0 where
  pub begins : Begins setting session.accepted
  pub served : IsEnded shown setting session.accepted session.after session.pass session.end

-- what is handed back of a session
abbrev pub back_of : Session → Back
back_of session = record { link = Some session.after.link; readings = Some session.after.clock; noted = Some session.after.notes }

-- after these links were made, then the devices of these sessions handed back, each in this order, and this many faults of the port
abbrev pub served_of : OutsideView → List Accepted → List Session → ℕ → OutsideView
served_of seen accepted handed faults = record seen {
  links = told seen.links (map (λ a. a.before.link) accepted);
  backs = told seen.backs (map back_of handed);
  listen_faults = counted seen.listen_faults faults;
}

-- their numbers rise, so no two are the same
abbrev pub NumbersRise : ℕ → List Accepted → Type 0
NumbersRise above [] = Unit {0}
NumbersRise above (next ∷ rest) = (above < next.began.number) × NumbersRise next.began.number rest

-- how a server ends that was to serve this many sessions
abbrev pub Ends : ℕ → List Session → ℕ → ServeEnd → Type 0
Ends count handed faults v.Served = (length handed ≡ count) × All (λ s. s.end ≢ e.NoMemory) handed × (faults ≡ 0)
Ends count handed faults (v.NotAccepted cause) = (length handed < count) × (faults ≡ 1)
Ends count handed faults v.NoMemory = faults ≡ 0

-- what the sessions of a server have in common, by what the plant's disk shows
abbrev pub setting_at : DiskView → MemoryView → TableId → Limits → Setting DiskView
setting_at origin memory lock limits = record {
  frame = memory.frame;
  origin = origin;
  loaded = memory.entries;
  lock = lock;
  limits = limits;
}

-- A server over a plant that was to serve this many sessions. It accepted sessions, and handed each back once. Each was served
-- through one lock round the plant, and had seen a prefix of the plant's chronicle as it is in the end, which begins with what it was
pub record Serves (limits : Limits) (count : ℕ) (origin : DiskView) (before after : MemoryView) (old new : OutsideView) (end : ServeEnd) : Type 0 where
  pub lock : TableId
  pub accepted : List Accepted
  pub handed : List Session
  pub once : IsPermutation (map (λ s. s.accepted) handed) accepted
  pub each : All (WasServed (λ disk. disk) (setting_at origin before lock limits)) handed
  pub rise : NumbersRise 0 accepted
  pub seen : All (λ s. IsPrefix s.pass.seen after.entries) handed
  pub begins : IsPrefix before.entries after.entries
  pub frame : after.frame ≡ before.frame
  pub faults : ℕ
  pub told_is : new ≡ served_of old accepted handed faults
  pub ends : Ends count handed faults end
