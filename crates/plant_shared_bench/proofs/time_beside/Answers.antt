use denote.Param.Send.{sendable}
use Rattle.std.proofs.Crossing.{crosses}
use Rattle.plant_shared.proofs.Crossing.{PlantLock-sync, Plant-send}
use Rattle.plant_shared_bench.proofs.Crossing.{MemDisk-send}
use Rattle.plant_shared_bench.proofs.time_beside.Goals as goal

pub beside_one-taken-requires-sync-K : goal.beside_one-taken-requires-sync-K
beside_one-taken-requires-sync-K g c κs within = search (PlantLock-sync, Plant-send, MemDisk-send, sendable, crosses) depth 20

pub beside_two-taken-requires-sync-K : goal.beside_two-taken-requires-sync-K
beside_two-taken-requires-sync-K g c κs within = search (PlantLock-sync, Plant-send, MemDisk-send, sendable, crosses) depth 20
