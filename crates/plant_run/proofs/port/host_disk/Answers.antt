use Rattle.std.proofs.Common.{rules, w32, w64, to_z, of_z, ◌≡◌, ◌∙◌}
use Rattle.plant_memory.specs.Chronicle.{moment_date}
use Rattle.plant_run.proofs.PortLemmas.{hosts-on}
use Rattle.plant_run.proofs.port.host_disk.Goals as goal

pub returns-in-Ok : goal.returns-in-Ok
returns-in-Ok g c =
    let moment : to_z w64 (of_z w64 c.now-first.result) ≡ c.now-first.result = search rules in
    let day : to_z w32 (of_z w32 c.open_date.result) ≡ c.open_date.result = search rules in
    let date : to_z w32 (of_z w32 c.open_date.result) ≡ moment_date c.now-first.result = day ∙ (rw moment at c.open_date.ensures.date) in
    hosts-on c.args.limits.now c.args.source.schema c.args.door.port c.args.door.sessions c.in-Ok.plant.memory (g.D.Disk.shown c.args.source.disk)
    (g.D.Disk.shown c.host_plant.result.0) (g.C.Clock.readings c.args.clock.now) (g.C.Clock.readings c.now-first.new.self) c.now-first.result
    (g.O.Outside.seen c.args.outside.now) (g.O.Outside.seen c.host_plant.new.outside) c.host_plant.result.1
    (record { loaded = rw date at c.in-Ok.ensures.loaded; tables_are = c.in-Ok.ensures.schema; limits_are = c.in-Ok.ensures.limits })
    c.now-first.ensures
    (rw c.in-Ok.ensures.origin at c.host_plant.ensures)
