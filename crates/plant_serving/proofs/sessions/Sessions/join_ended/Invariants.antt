use Rattle.plant_serving.specs.Serving.{setting_of}
use Rattle.plant_serving.specs.Working.{Works}
use Rattle.plant_serving.proofs.sessions.Sessions.join_ended.Given as goal

abbrev pub invariant-loop-at : goal.invariant-loop-at
invariant-loop-at g l =
    Works g.D.Disk.shown (setting_of l.server.shop.lock.now l.server.shop.limits.now) l.server.count (g.O.Outside.seen l.server.began.value) l.sessions.first
    l.sessions.running.items l.sessions.progress (g.O.Outside.seen l.outside)
