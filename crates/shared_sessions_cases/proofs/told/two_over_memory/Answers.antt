use denote.Param.Send.{sendable}
use Rattle.std.proofs.Crossing.{crosses}
use Rattle.plant_shared.proofs.Crossing.{PlantLock-sync, Plant-send}
use Rattle.shared_sessions_cases.proofs.Crossing.{MemDisk-send}
use Rattle.shared_sessions_cases.proofs.told.two_over_memory.Goals as goal

pub serve_two-requires-sync-K : goal.serve_two-requires-sync-K
serve_two-requires-sync-K g c κs within = search (PlantLock-sync, Plant-send, MemDisk-send, sendable, crosses) depth 20
