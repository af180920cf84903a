use denote.Param.Send.{sendable}
use Rattle.std.proofs.Crossing.{crosses}
use Rattle.plant_shared.proofs.Crossing.{PlantLock-sync, Plant-send}
use Rattle.shared_sessions_cases.proofs.Crossing.{MemDisk-send}
use Rattle.shared_sessions_cases.proofs.subscribers.five_over_memory.Goals as goal

pub serve_five-heard-requires-sync-K : goal.serve_five-heard-requires-sync-K
serve_five-heard-requires-sync-K g c κs within = search (PlantLock-sync, Plant-send, MemDisk-send, sendable, crosses) depth 20
