use denote.Param.Send.{sendable}
use Rattle.std.proofs.Crossing.{crosses}
use Rattle.plant_shared.proofs.Crossing.{PlantLock-sync, Plant-send}
use Rattle.plant_serving.proofs.threads.start.Goals as goal

pub start_by-requires-sync-K : goal.start_by-requires-sync-K
start_by-requires-sync-K g c κs within =
    let d = c.type_bounds.send-D in
    search (PlantLock-sync, Plant-send, sendable, crosses) depth 20
