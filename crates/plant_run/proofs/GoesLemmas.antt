-- A run over a disk, of which the plant was just loaded.
use Rattle.std.proofs.Common.{◌≡◌, ℤ, List, [], ◌∷◌, Option, ap, subst, ◌∙◌}
use Rattle.day_rows.specs.declared.schema.Shape.{Shape}
use Rattle.outside_api.specs.Disk.{DiskView}
use Rattle.outside_api.specs.Told.{told}
use Rattle.plant_memory.specs.Chronicle.{moment_date}
use Rattle.plant_memory.specs.Memory.{MemoryView}
use Rattle.plant_core.specs.Access.{AccessView}
use Rattle.plant_core.specs.Plant.{ShownPlant, IsSound}
use Rattle.program_outside.specs.Outside.{OutsideView}
use Rattle.q_values.specs.declared.limits.Limits.{Limits}
use Rattle.session.specs.Run.{World, world}
use Rattle.session.specs.Session.{IsSession}
use Rattle.session.specs.declared.end.End.{End}
use Rattle.plant_run.specs.Once.{Goes, GoesOn, IsPlantOf, Keeps, CourseView, not_loaded, not_linked, ended, first_shown}

-- what was done after the load is what the whole run did
pub goes-on : (limits : Limits) (tables : List Shape) (plant : MemoryView) (disk_old disk_new : DiskView)
    (clock_old clock_read clock_new : Option (List ℤ)) (first : ℤ) (old new : OutsideView) (course : CourseView)
    → IsPlantOf limits tables disk_old (moment_date first) plant → clock_read ≡ told clock_old (first ∷ [])
    → GoesOn limits plant disk_old disk_new clock_read clock_new old new course
    → Goes limits tables disk_old disk_new clock_old clock_new old new course
goes-on limits tables plant disk_old disk_new clock_old clock_read clock_new first old new (not_loaded why) loaded read went = absurd went
goes-on limits tables plant disk_old disk_new clock_old clock_read clock_new first old new (not_linked cause) loaded read went =
    (went.0, record { first = first; read = went.1 ∙ read; plant = plant; is_plant = loaded; kept = went.2 })
goes-on limits tables plant disk_old disk_new clock_old clock_read clock_new first old new (ended link notes end) loaded read went =
    let before : Option (List ℤ) → World = λ readings. world went.link_old readings went.notes_old (first_shown disk_old plant) in
    let session : Option (List ℤ) → Type 0 = λ readings. IsSession limits (before readings) (world link clock_new notes went.access) end in
    record {
      link_old = went.link_old;
      notes_old = went.notes_old;
      linked = went.linked;
      unnoted = went.unnoted;
      sits = record {
        first = first;
        plant = plant;
        is_plant = loaded;
        access = went.access;
        session = subst session read went.session;
        kept = went.kept;
      };
    }

-- the disk of a plant keeps its log since the plant was loaded
pub sound-keeps : (plant : ShownPlant) → IsSound plant → Keeps plant.origin plant.disk plant.memory.frame plant.memory.entries
sound-keeps plant sound = record { restarts = sound.restarts; faults = sound.faults }

-- an access reaches the plant that it reached before the session
pub session-home : (limits : Limits) (a b : World) (end : End) → IsSession limits a b end → b.access.home ≡ a.access.home
session-home limits a b end session = ap (λ (access : AccessView). access.home) session.access.after
