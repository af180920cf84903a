-- A run of `serve`: the sessions of a port, over the plant of a disk.
use Rattle.std.specs.Prelude.{◌≡◌, ◌⊎◌, ℕ, ℤ, IsTrue, List, [], ◌∷◌, ◌++◌, Option, Some, None, codes}
use Rattle.std.specs.Fmt.{decimal}
use Rattle.day_rows.specs.declared.schema.Shape.{Shape}
use Rattle.outside_api.specs.Disk.{DiskView}
use Rattle.outside_api.specs.Told.{told, HasToldNothing}
use Rattle.plant_memory.specs.Chronicle.{moment_date}
use Rattle.plant_memory.specs.Memory.{MemoryView}
use Rattle.plant_serving.specs.Serving.{Serves}
use Rattle.plant_serving.specs.declared.end.ServeEnd.{ServeEnd}
use Rattle.plant_serving.specs.declared.end.ServeEnd.TheVariants.{Served, NotAccepted, NoMemory}
use Rattle.program_outside.specs.Outside.{OutsideView, with_listen_fault, warned_of, opened_of, handed_back, kept_of}
use Rattle.program_outside.specs.declared.fault.Cause.{Cause}
use Rattle.q_values.specs.declared.limits.Limits.{Limits}
use Rattle.plant_run.specs.Ends.{IsShort, CannotMake, TellsWhy}
use Rattle.plant_run.specs.Once.{IsPlantOf, IsRefused, IsClosed, IsBlank, IsFormatted, Keeps, Refuses}
use Rattle.plant_run.specs.declared.causes.StartRefusal.TheVariants as r
use Rattle.plant_run.specs.declared.port.Service.{Service}
use Rattle.plant_run.specs.declared.port.Service.TheVariants as s

-- what a port is called
abbrev pub port_name : ℕ → List ℕ
port_name port = codes "port " ++ decimal port

-- listening on the port, or accepting a connection, failed for this cause, which a second line says
abbrev pub CannotListen : ℕ → Cause → OutsideView → OutsideView → ℕ → Type 0
CannotListen port cause old new status =
    (status ≡ 9)
    × ((line : List ℕ) × TellsWhy (port_name port) (r.Device cause) line × (new ≡ warned_of (warned_of old (codes "plant: cannot listen")) line))

-- an outside that listens on the port
abbrev pub listening_on : OutsideView → ℕ → OutsideView
listening_on seen port = record seen { listening = Some port }

-- a plant that was loaded is served to this many sessions of the port; its disk keeps the log of its chronicle as that is in the end
pub record HostsPlant (limits : Limits) (port count : ℕ) (plant : MemoryView) (disk_old disk_new : DiskView) (old new : OutsideView)
    (end : ServeEnd) : Type 0 where
  pub closed : MemoryView
  pub serves : Serves limits count disk_old plant closed (listening_on old port) new end
  pub kept : Keeps disk_old disk_new closed.frame closed.entries

-- how a run goes over a plant that was loaded
abbrev pub HostsOn : Limits → ℕ → ℕ → MemoryView → DiskView → DiskView → OutsideView → OutsideView → Service → Type 0
HostsOn limits port count plant disk_old disk_new old new (s.NotLoaded why) = ⊥
HostsOn limits port count plant disk_old disk_new old new (s.NotListening cause) =
    (new ≡ with_listen_fault old) × Keeps disk_old disk_new plant.frame plant.entries
HostsOn limits port count plant disk_old disk_new old new (s.Ended end) = HostsPlant limits port count plant disk_old disk_new old new end

-- the plant is loaded at the date of the clock's only reading, and then the run goes on
pub record HostsLoaded (limits : Limits) (tables : List Shape) (port count : ℕ) (disk_old disk_new : DiskView)
    (clock_old clock_new : Option (List ℤ)) (old new : OutsideView) (service : Service) : Type 0 where
  pub first : ℤ
  pub read : clock_new ≡ told clock_old (first ∷ [])
  pub plant : MemoryView
  pub is_plant : IsPlantOf limits tables disk_old (moment_date first) plant
  pub goes_on : HostsOn limits port count plant disk_old disk_new old new service

-- how a run over a disk goes: the load is refused, or the plant is loaded
abbrev pub Hosts : Limits → List Shape → ℕ → ℕ → DiskView → DiskView → Option (List ℤ) → Option (List ℤ) → OutsideView → OutsideView → Service → Type 0
Hosts limits tables port count disk_old disk_new clock_old clock_new old new (s.NotLoaded why) =
    (new ≡ old) × IsRefused tables disk_old disk_new clock_old clock_new why
Hosts limits tables port count disk_old disk_new clock_old clock_new old new (s.NotListening cause) =
    HostsLoaded limits tables port count disk_old disk_new clock_old clock_new old new (s.NotListening cause)
Hosts limits tables port count disk_old disk_new clock_old clock_new old new (s.Ended end) =
    HostsLoaded limits tables port count disk_old disk_new clock_old clock_new old new (s.Ended end)

-- the exit status and the lines of how it went
abbrev pub EndsService : Option (List ℕ) → ℕ → OutsideView → OutsideView → ℕ → Service → Type 0
EndsService folder port old new status (s.NotLoaded why) = Refuses folder why old new status
EndsService folder port old new status (s.NotListening cause) = CannotListen port cause old new status
EndsService folder port old new status (s.Ended Served) = (status ≡ 0) × (new ≡ old)
EndsService folder port old new status (s.Ended (NotAccepted cause)) = CannotListen port cause old new status
EndsService folder port old new status (s.Ended NoMemory) = IsShort old new status

-- a whole run over a disk, in a folder of this path or in memory; its clock was made for no link, and is handed back alone
pub record HostsOver (limits : Limits) (tables : List Shape) (port count : ℕ) (folder : Option (List ℕ)) (disk_old disk_new : DiskView)
    (old new : OutsideView) (status : ℕ) : Type 0 where
  pub service : Service
  pub between : OutsideView
  pub clock_old : Option (List ℤ)
  pub clock_new : Option (List ℤ)
  pub unread : HasToldNothing clock_old
  pub hosts : Hosts limits tables port count disk_old disk_new clock_old clock_new old between service
  pub ends : EndsService folder port (handed_back between None (Some clock_new) None) new status service

-- a run in a folder: the folder can't be opened, and that is counted; or it runs over the folder's disk, which is handed back
abbrev pub HostsIn : Limits → List Shape → ℕ → ℕ → List ℕ → OutsideView → OutsideView → ℕ → Type 0
HostsIn limits tables port count path old new status =
    CannotMake path old new status
    ⊎ ((disk_old disk_new : DiskView) × ((after : OutsideView)
    × HostsOver limits tables port count (Some path) disk_old disk_new (opened_of old path disk_old) after status
    × (new ≡ kept_of after disk_new)))

-- a run in memory: there is no memory for its disk, or it runs over a disk of which each plant is new
abbrev pub HostsInMemory : Limits → List Shape → ℕ → ℕ → OutsideView → OutsideView → ℕ → Type 0
HostsInMemory limits tables port count old new status =
    IsShort old new status
    ⊎ ((disk_old disk_new : DiskView) × IsTrue disk_old.tells × IsFormatted tables disk_old × IsBlank limits tables disk_old
    × HostsOver limits tables port count None disk_old disk_new old new status)

-- a run with these tables
abbrev pub HostsWith : Limits → List Shape → ℕ → ℕ → Option (List ℕ) → OutsideView → OutsideView → ℕ → Type 0
HostsWith limits tables port count None old new status = HostsInMemory limits tables port count old new status
HostsWith limits tables port count (Some path) old new status = HostsIn limits tables port count path old new status
