use Rattle.std.proofs.Common.{rules, w32, w64, to_z, of_z, ◌≡◌, ◌∙◌}
use Rattle.plant_memory.specs.Chronicle.{moment_date}
use Rattle.plant_run.proofs.GoesLemmas.{goes-on}
use Rattle.plant_run.specs.Once.{course_of}
use Rattle.plant_run.proofs.serving.serve.Goals as goal

pub returns-in-Ok : goal.returns-in-Ok
returns-in-Ok g c =
    let moment : to_z w64 (of_z w64 c.now-first.result) ≡ c.now-first.result = search rules in
    let day : to_z w32 (of_z w32 c.open_date.result) ≡ c.open_date.result = search rules in
    let date : to_z w32 (of_z w32 c.open_date.result) ≡ moment_date c.now-first.result = day ∙ (rw moment at c.open_date.ensures.date) in
    goes-on c.args.limits.now c.args.schema c.in-Ok.plant.memory (g.D.Disk.shown c.args.disk) (g.D.Disk.shown c.serve_plant.result.0)
    (g.C.Clock.readings c.args.clock.now) (g.C.Clock.readings c.now-first.new.self) (g.C.Clock.readings c.serve_plant.new.clock)
    c.now-first.result (g.O.Outside.seen c.args.outside.now) (g.O.Outside.seen c.serve_plant.new.outside)
    (course_of g.O.Link.Link.shown g.O.Recorder.Recorder.noted c.serve_plant.result.1)
    (record { loaded = rw date at c.in-Ok.ensures.loaded; tables_are = c.in-Ok.ensures.schema; limits_are = c.in-Ok.ensures.limits })
    c.now-first.ensures
    (rw c.in-Ok.ensures.origin at c.serve_plant.ensures)
