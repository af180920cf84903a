use denote.Param.Send.{sendable}
use Rattle.std.proofs.Crossing.{crosses}
use Rattle.plant_shared.proofs.Crossing.{PlantLock-sync, Plant-send}
use Rattle.plant_shared_bench.proofs.Crossing.{MemDisk-send}
use Rattle.plant_shared_bench.proofs.time_longest.Goals as goal

pub longest_beside-found-requires-sync-K : goal.longest_beside-found-requires-sync-K
longest_beside-found-requires-sync-K g c κs within = search (PlantLock-sync, Plant-send, MemDisk-send, sendable, crosses) depth 20
