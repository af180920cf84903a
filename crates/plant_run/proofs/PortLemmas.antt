-- A run of `serve`, of which the plant was just loaded.
use Rattle.std.proofs.Common.{◌≡◌, ℕ, ℤ, List, [], ◌∷◌, Option}
use Rattle.day_rows.specs.declared.schema.Shape.{Shape}
use Rattle.outside_api.specs.Disk.{DiskView}
use Rattle.outside_api.specs.Told.{told}
use Rattle.plant_memory.specs.Chronicle.{moment_date}
use Rattle.plant_memory.specs.Memory.{MemoryView}
use Rattle.program_outside.specs.Outside.{OutsideView}
use Rattle.q_values.specs.declared.limits.Limits.{Limits}
use Rattle.plant_run.specs.Once.{IsPlantOf}
use Rattle.plant_run.specs.Port.{Hosts, HostsOn}
use Rattle.plant_run.specs.declared.port.Service.{Service}
use Rattle.plant_run.specs.declared.port.Service.TheVariants as s

-- what was done after the load is what the whole run did
pub hosts-on : (limits : Limits) (tables : List Shape) (port count : ℕ) (plant : MemoryView) (disk_old disk_new : DiskView)
    (clock_old clock_new : Option (List ℤ)) (first : ℤ) (old new : OutsideView) (service : Service)
    → IsPlantOf limits tables disk_old (moment_date first) plant → clock_new ≡ told clock_old (first ∷ [])
    → HostsOn limits port count plant disk_old disk_new old new service
    → Hosts limits tables port count disk_old disk_new clock_old clock_new old new service
hosts-on limits tables port count plant disk_old disk_new clock_old clock_new first old new (s.NotLoaded why) loaded read went = absurd went
hosts-on limits tables port count plant disk_old disk_new clock_old clock_new first old new (s.NotListening cause) loaded read went =
    record { first = first; read = read; plant = plant; is_plant = loaded; goes_on = went }
hosts-on limits tables port count plant disk_old disk_new clock_old clock_new first old new (s.Ended end) loaded read went =
    record { first = first; read = read; plant = plant; is_plant = loaded; goes_on = went }
