-- A run of `once`: a session over the plant of a disk.
use Rattle.std.specs.Prelude.{◌≡◌, ◌≢◌, ◌⊎◌, ◌≤◌, ◌+◌, ℕ, ℤ, true, IsTrue, List, [], ◌∷◌, Option, Some, None, Ok, codes}
use Rattle.day_rows.specs.Chronicle.{log}
use Rattle.day_rows.specs.declared.entry.Entry.{Entry}
use Rattle.day_rows.specs.declared.schema.Shape.{Shape}
use Rattle.date_loading.specs.Loading.{AreSettled}
use Rattle.date_loading.specs.declared.refusal.LoadRefusal.{LoadRefusal}
use Rattle.date_loading.specs.declared.refusal.LoadRefusal.TheVariants as l
use Rattle.date_logs.specs.Moments.{RestartsFrom}
use Rattle.mem_plant.specs.New.{IsNew}
use Rattle.outside_api.specs.Counts.{counted}
use Rattle.outside_api.specs.Disk.{DiskView}
use Rattle.outside_api.specs.Link.{LinkView}
use Rattle.outside_api.specs.Told.{told, HasToldNothing}
use Rattle.outside_mem.specs.MemDisk.{shown_by, new_disk}
use Rattle.ticking_clock.specs.Clock.{ticks}
use Rattle.plant_core.specs.Access.{AccessView}
use Rattle.plant_core.specs.Load.{IsLoaded, LoadRefuses, RefusalCounts, LeavesFiles}
use Rattle.plant_core.specs.Plant.{MayBeLate, fault_count}
use Rattle.plant_memory.specs.Chronicle.{moment_date, top_by}
use Rattle.plant_memory.specs.Frame.{Frame}
use Rattle.plant_memory.specs.Memory.{MemoryView}
use Rattle.plant_words.specs.declared.command.Ticking.{Ticking}
use Rattle.program_outside.specs.Outside.{OutsideView, HasLinked, with_fault, opened_of, handed_back, kept_of}
use Rattle.program_outside.specs.declared.fault.Cause.{Cause}
use Rattle.q_values.specs.declared.limits.Limits.{Limits}
use Rattle.q_values.specs.declared.turn.Turn.{Turn}
use Rattle.session.specs.Run.{world}
use Rattle.session.specs.Session.{IsSession}
use Rattle.session.specs.declared.end.End.{End}
use Rattle.plant_run.specs.Ends.{Concludes, IsShort, CannotStart, CannotMake}
use Rattle.plant_run.specs.Init.{Formats}
use Rattle.plant_run.specs.declared.causes.StartRefusal.TheVariants as s
use Rattle.plant_run.specs.declared.course.Course.{Course}
use Rattle.plant_run.specs.declared.course.Course.TheVariants as c

-- what a plant that was loaded from a disk shows to the one pass that has it, before that pass made anything
abbrev pub first_shown : DiskView → MemoryView → AccessView
first_shown disk plant = record {
  by = top_by plant.entries + 1;
  frame = plant.frame;
  alone = true;
  seen = plant.entries;
  mine = [];
  snapshots = 0;
  ticks = 0;
  home = record { origin = disk; lock = None };
}

-- the plant of these tables that the disk stands for, opened at a date: its chronicle is what the files restart as, and then one
-- roll where the date is later
pub record IsPlantOf (limits : Limits) (tables : List Shape) (disk : DiskView) (date : ℤ) (plant : MemoryView) : Type 0 where
  pub loaded : IsTrue disk.tells → IsLoaded disk tables date plant
  pub tables_are : plant.frame.schema ≡ tables
  pub limits_are : plant.frame.limits ≡ limits

-- whatever a restart finds of the disk is the log of these entries, or, where the last of them is a fault, maybe that and one late
-- entry; where no sync of the files had failed before the load. There are no more faults among them than the disk has counted since
pub record Keeps (old new : DiskView) (frame : Frame) (entries : List Entry) : Type 0 where
  pub restarts :
      AreSettled old → IsTrue new.tells
      → (late : Option Entry) × MayBeLate entries late × RestartsFrom frame.schema frame.first (log entries) late new.now
  pub faults : counted old.faults (fault_count entries) ≤ new.faults

-- a session over the plant of a disk, opened at the date of the clock's first reading; the disk keeps the log of all that the
-- session saw
pub record Sits (limits : Limits) (tables : List Shape) (disk_old disk_new : DiskView) (clock_old clock_new : Option (List ℤ))
    (link_old link_new : LinkView) (notes_old notes_new : Option (List Turn)) (end : End) : Type 0 where
  pub first : ℤ
  pub plant : MemoryView
  pub is_plant : IsPlantOf limits tables disk_old (moment_date first) plant
  pub access : AccessView
  pub session : IsSession limits
      (world link_old (told clock_old (first ∷ [])) notes_old (first_shown disk_old plant))
      (world link_new clock_new notes_new access)
      end
  pub kept : Keeps disk_old disk_new access.frame access.seen

-- the load is refused at the date of the clock's only reading; a fault of the disk is counted, and without one each file reads as
-- before
pub record IsRefused (tables : List Shape) (disk_old disk_new : DiskView) (clock_old clock_new : Option (List ℤ)) (why : LoadRefusal) : Type 0 where
  pub first : ℤ
  pub read : clock_new ≡ told clock_old (first ∷ [])
  pub refused : LoadRefuses disk_old tables (moment_date first) why
  pub counts : RefusalCounts disk_old disk_new why
  pub unchanged : LeavesFiles disk_old disk_new why

-- the plant was loaded and closed, for want of standard input and output; the clock was read once
pub record IsClosed (limits : Limits) (tables : List Shape) (disk_old disk_new : DiskView) (clock_old clock_new : Option (List ℤ)) : Type 0 where
  pub first : ℤ
  pub read : clock_new ≡ told clock_old (first ∷ [])
  pub plant : MemoryView
  pub is_plant : IsPlantOf limits tables disk_old (moment_date first) plant
  pub kept : Keeps disk_old disk_new plant.frame plant.entries

-- how a run over a disk went
pub data CourseView : Type 0 where
  not_loaded : LoadRefusal → CourseView
  -- there was no link, for this cause
  not_linked : Cause → CourseView
  -- a session ended; its link and its notes at the end
  ended : LinkView → Option (List Turn) → End → CourseView

abbrev pub course_of : {L N : Type 0} → (L → LinkView) → (N → Option (List Turn)) → Course L N → CourseView
course_of shown noted (c.NotLoaded why) = not_loaded why
course_of shown noted (c.NotLinked cause) = not_linked cause
course_of shown noted (c.Ended link turns end) = ended (shown link) (noted turns) end

-- one link was made, for the session; nothing had passed through it, and nothing was noted before
pub record Serves (limits : Limits) (tables : List Shape) (disk_old disk_new : DiskView) (clock_old clock_new : Option (List ℤ))
    (old new : OutsideView) (link : LinkView) (notes : Option (List Turn)) (end : End) : Type 0 where
  pub link_old : LinkView
  pub notes_old : Option (List Turn)
  pub linked : HasLinked old new link_old
  pub unnoted : HasToldNothing notes_old
  pub sits : Sits limits tables disk_old disk_new clock_old clock_new link_old link notes_old notes end

-- what a run over a disk did, up to the handing back of its devices
abbrev pub Goes : Limits → List Shape → DiskView → DiskView → Option (List ℤ) → Option (List ℤ) → OutsideView → OutsideView → CourseView → Type 0
Goes limits tables disk_old disk_new clock_old clock_new old new (not_loaded why) = (new ≡ old) × IsRefused tables disk_old disk_new clock_old clock_new why
Goes limits tables disk_old disk_new clock_old clock_new old new (not_linked cause) =
    (new ≡ with_fault old) × IsClosed limits tables disk_old disk_new clock_old clock_new
Goes limits tables disk_old disk_new clock_old clock_new old new (ended link notes end) =
    Serves limits tables disk_old disk_new clock_old clock_new old new link notes end

-- the clock reads a start and then a step more each time, or it is one of the outside's, which was never read; then it is
-- handed back
abbrev pub IsClock : Option Ticking → Option (List ℤ) → Option (List ℤ) → Option (Option (List ℤ)) → Type 0
IsClock (Some ticking) old new handed = (old ≡ Some []) × ((n : ℕ) × (new ≡ Some (ticks ticking.start ticking.step n))) × (handed ≡ None)
IsClock None old new handed = HasToldNothing old × (handed ≡ Some new)

-- an outside to which the clock of a run without a session was handed back, if it had made one
abbrev pub clock_back : OutsideView → Option (Option (List ℤ)) → OutsideView
clock_back seen None = seen
clock_back seen (Some readings) = handed_back seen None (Some readings) None

-- a load that is refused: out of memory, as is each refusal of a disk in memory; or the program can't start
abbrev pub Refuses : Option (List ℕ) → LoadRefusal → OutsideView → OutsideView → ℕ → Type 0
Refuses None why old new status = IsShort old new status
Refuses (Some path) why old new status =
    ((why ≡ l.NoMemory) × IsShort old new status) ⊎ ((why ≢ l.NoMemory) × CannotStart path (s.Load why) old new status)

-- the devices are handed back, and the program ends with the exit status and the lines of its course
abbrev pub Finishes : Option (List ℕ) → Option (Option (List ℤ)) → OutsideView → OutsideView → ℕ → CourseView → Type 0
Finishes folder handed old new status (not_loaded why) = Refuses folder why (clock_back old handed) new status
Finishes folder handed old new status (not_linked cause) =
    CannotStart (codes "standard input and output") (s.Device cause) (clock_back old handed) new status
Finishes folder handed old new status (ended link notes end) = Concludes end (handed_back old (Some link) handed (Some notes)) new status

-- a whole run over a disk, in a folder of this path or in memory
pub record RunsOver (limits : Limits) (tables : List Shape) (ticking : Option Ticking) (folder : Option (List ℕ)) (disk_old disk_new : DiskView)
    (old new : OutsideView) (status : ℕ) : Type 0 where
  pub course : CourseView
  pub between : OutsideView
  pub clock_old : Option (List ℤ)
  pub clock_new : Option (List ℤ)
  pub handed : Option (Option (List ℤ))
  pub clock : IsClock ticking clock_old clock_new handed
  pub goes : Goes limits tables disk_old disk_new clock_old clock_new old between course
  pub finishes : Finishes folder handed between new status course

-- each plant of the disk has logged nothing and begins at the date that it is opened at
abbrev pub IsBlank : Limits → List Shape → DiskView → Type 0
IsBlank limits tables disk = (date : ℤ) (plant : MemoryView) → IsPlantOf limits tables disk date plant → IsNew tables date limits plant

-- a run in a folder: the folder can't be opened, and that is counted; or it runs over the folder's disk, which is handed back
abbrev pub RunsIn : Limits → List Shape → Option Ticking → List ℕ → OutsideView → OutsideView → ℕ → Type 0
RunsIn limits tables ticking path old new status =
    CannotMake path old new status
    ⊎ ((disk_old disk_new : DiskView) × ((after : OutsideView)
    × RunsOver limits tables ticking (Some path) disk_old disk_new (opened_of old path disk_old) after status
    × (new ≡ kept_of after disk_new)))

-- the disk was formatted for a plant of these tables in memory, where it had no files and no call that is to fail
abbrev pub IsFormatted : List Shape → DiskView → Type 0
IsFormatted tables disk = Formats tables (shown_by (new_disk [] None)) disk (Ok tt)

-- a run in memory: there is no memory for its disk, or it runs over a disk of which each plant is new
abbrev pub RunsInMemory : Limits → List Shape → Option Ticking → OutsideView → OutsideView → ℕ → Type 0
RunsInMemory limits tables ticking old new status =
    IsShort old new status
    ⊎ ((disk_old disk_new : DiskView) × IsTrue disk_old.tells × IsFormatted tables disk_old × IsBlank limits tables disk_old
    × RunsOver limits tables ticking None disk_old disk_new old new status)

-- a run with these tables
abbrev pub RunsWith : Limits → List Shape → Option Ticking → Option (List ℕ) → OutsideView → OutsideView → ℕ → Type 0
RunsWith limits tables ticking None old new status = RunsInMemory limits tables ticking old new status
RunsWith limits tables ticking (Some path) old new status = RunsIn limits tables ticking path old new status

-- a session over this plant, whose clock was read once
pub record ServesOn (limits : Limits) (plant : MemoryView) (disk_old disk_new : DiskView) (clock_old clock_new : Option (List ℤ))
    (old new : OutsideView) (link : LinkView) (notes : Option (List Turn)) (end : End) : Type 0 where
  pub link_old : LinkView
  pub notes_old : Option (List Turn)
  pub linked : HasLinked old new link_old
  pub unnoted : HasToldNothing notes_old
  pub access : AccessView
  pub session : IsSession limits (world link_old clock_old notes_old (first_shown disk_old plant)) (world link clock_new notes access) end
  pub kept : Keeps disk_old disk_new access.frame access.seen

-- the same of a run whose plant was loaded from a disk, and whose clock was read once
abbrev pub GoesOn : Limits → MemoryView → DiskView → DiskView → Option (List ℤ) → Option (List ℤ) → OutsideView → OutsideView → CourseView → Type 0
GoesOn limits plant disk_old disk_new clock_old clock_new old new (not_loaded why) = ⊥
GoesOn limits plant disk_old disk_new clock_old clock_new old new (not_linked cause) =
    (new ≡ with_fault old) × (clock_new ≡ clock_old) × Keeps disk_old disk_new plant.frame plant.entries
GoesOn limits plant disk_old disk_new clock_old clock_new old new (ended link notes end) =
    ServesOn limits plant disk_old disk_new clock_old clock_new old new link notes end
