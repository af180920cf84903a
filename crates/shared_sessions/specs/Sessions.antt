-- What a session over a plant under a lock did, and the pass that it leaves.
use Rattle.std.specs.Prelude.{◌≡◌, ℕ, ℤ, List, [], Option, Some}
use Rattle.outside_api.specs.Link.{LinkView, IsFresh}
use Rattle.outside_api.specs.Told.{HasToldNothing}
use Rattle.q_values.specs.Limits.{AreLimits}
use Rattle.q_values.specs.declared.limits.Limits.{Limits}
use Rattle.q_values.specs.declared.turn.Turn.{Turn}
use Rattle.day_rows.specs.declared.entry.Entry.{Entry}
use Rattle.day_rows.specs.declared.schema.Shape.{Shape}
use Rattle.plant_memory.specs.Chronicle.{by_of}
use Rattle.plant_memory.specs.Frame.{Frame}
use Rattle.plant_lock.specs.Entries.{own}
use Rattle.plant_lock.specs.Told.{Lock, Told}
use Rattle.outside_api.specs.Disk.{DiskView}
use Rattle.plant_core.specs.Access.{AccessView, Home}
use Rattle.plant_core.specs.Plant.{PlantView}
use Rattle.plant_shared.specs.Shared.{IsPass, locked, shown_pass}
use Rattle.session.specs.Run.{World, world}
use Rattle.session.specs.Session.{IsSession}
use Rattle.session.specs.declared.end.End.{End}

-- whose plant a lock is round
abbrev pub home_of : {D : Type 0} → (D → DiskView) → Lock (PlantView D) → Home
home_of shown lock = locked (shown lock.made.origin) lock.id

-- a pass of the lock that has made nothing, beside the tables and limits of the lock's plant
pub record MayServe {D : Type 0} (lock : Lock (PlantView D)) (pass : Told Entry) (schema : List Shape) (limits : Limits) : Type 0 where
  pub pass_is : IsPass lock.id pass
  pub unmade : pass.mine ≡ []
  pub schema_is : schema ≡ lock.made.memory.frame.schema
  pub limits_are : lock.made.memory.frame.limits ≡ limits
  pub lawful : AreLimits limits

-- what the devices of a connection show: its link, the readings of its clock, and what was noted of its session
pub record Line : Type 0 where
  pub link : LinkView
  pub clock : Option (List ℤ)
  pub notes : Option (List Turn)

abbrev pub line : LinkView → Option (List ℤ) → Option (List Turn) → Line
line link clock notes = record { link = link; clock = clock; notes = notes }

-- nothing has passed through the devices of a connection
pub record IsUnused (line : Line) : Type 0 where
  pub link : IsFresh line.link
  pub clock : HasToldNothing line.clock
  pub notes : HasToldNothing line.notes

-- the world of a session: the devices of its connection, and its access
abbrev pub world_at : Line → AccessView → World
world_at line access = world line.link line.clock line.notes access

-- the pass that an access had when it ended: still of its lock and of its number, it has seen what the access saw, and the entries
-- of its number in that are exactly those that the access made
pub record Leaves (old new : Told Entry) (access : AccessView) : Type 0 where
  pub lock : new.lock ≡ old.lock
  pub number : new.number ≡ old.number
  pub seen : new.seen ≡ access.seen
  pub mine : new.mine ≡ access.mine
  pub own : own by_of new.number new.seen ≡ new.mine

-- A session of a pass over a plant that others reach too. What it answered, noted and made is told of what its pass has seen in the
-- end, which begins with what the pass had seen before, and which the plant's chronicle begins with from then on.
pub record IsServed (limits : Limits) (frame : Frame) (home : Home) (old new : Told Entry) (a b : Line) (end : End) : Type 0 where
  pub access : AccessView
  pub session : IsSession limits (world_at a (shown_pass frame home old 0 0)) (world_at b access) end
  pub leaves : Leaves old new access

-- the same of a session that had devices of its own, through which nothing had passed, and a pass of the lock that had made nothing
pub record IsFinished (limits : Limits) (frame : Frame) (home : Home) (pass : Told Entry) (after : Line) (end : End) : Type 0 where
  pub of_lock : home.lock ≡ Some pass.lock
  pub began : Told Entry
  pub unmade : began.mine ≡ []
  pub before : Line
  pub unused : IsUnused before
  pub served : IsServed limits frame home began pass before after end

-- the same of a session through this lock, of the pass of this number
pub record IsFinishedAs {D : Type 0} (shown : D → DiskView) (lock : Lock (PlantView D)) (limits : Limits) (number : ℕ)
    (pass : Told Entry) (after : Line) (end : End) : Type 0 where
  pub finished : IsFinished limits lock.made.memory.frame (home_of shown lock) pass after end
  pub number_is : pass.number ≡ number
