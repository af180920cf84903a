use Rattle.std.proofs.Common.{◌≡◌, vec_len}
use Rattle.plant_serving.specs.Serving.{setting_of}
use Rattle.plant_serving.specs.Working.{Works}
use Rattle.plant_serving.proofs.sessions.Sessions.join_all.Given as goal

abbrev pub invariant-loop-sessions : goal.invariant-loop-sessions
invariant-loop-sessions g l =
    Works g.D.Disk.shown (setting_of l.server.shop.lock.now l.server.shop.limits.now) l.server.count (g.O.Outside.seen l.server.began.value) l.sessions.first
    l.sessions.running.items l.sessions.progress (g.O.Outside.seen l.outside)
    × (l.sessions.progress ≡ record l.fn.self.progress { is_short = l.sessions.progress.is_short })

abbrev pub decreases-loop-sessions : goal.decreases-loop-sessions
decreases-loop-sessions g l = vec_len l.sessions.running
