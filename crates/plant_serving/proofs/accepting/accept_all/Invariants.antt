use Rattle.plant_serving.specs.Serving.{setting_of}
use Rattle.plant_serving.specs.Working.{Works}
use Rattle.plant_serving.proofs.accepting.accept_all.Given as goal

abbrev pub invariant-loop : goal.invariant-loop
invariant-loop g l =
    Works g.D.Disk.shown (setting_of l.server.shop.lock.now l.server.shop.limits.now) l.server.count (g.O.Outside.seen l.server.began.value) l.sessions.first
    l.sessions.running.items l.sessions.progress (g.O.Outside.seen l.outside)
