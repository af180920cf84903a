use denote.Param.Send.{sendable}
use Rattle.std.proofs.Crossing.{crosses}
use Rattle.plant_shared.proofs.Crossing.{PlantLock-sync, Plant-send}
use Rattle.plant_shared_bench.proofs.Crossing.{MemDisk-send}
use Rattle.plant_shared_bench.proofs.time_feeds.Goals as goal

pub feed_by_two-logged-requires-sync-K : goal.feed_by_two-logged-requires-sync-K
feed_by_two-logged-requires-sync-K g c κs within = search (PlantLock-sync, Plant-send, MemDisk-send, sendable, crosses) depth 20

pub feed_by_four-logged-requires-sync-K : goal.feed_by_four-logged-requires-sync-K
feed_by_four-logged-requires-sync-K g c κs within = search (PlantLock-sync, Plant-send, MemDisk-send, sendable, crosses) depth 20
