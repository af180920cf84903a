use Rattle.std.proofs.Common.{◌≡◌, sym, ap, subst}
use Rattle.plant_core.specs.Plant.{PlantView}
use Rattle.plant_serving.specs.Serving.{Serves}
use Rattle.plant_serving.specs.declared.end.ServeEnd.TheVariants as v
use Rattle.plant_serving.proofs.WorkLemmas.{serves_none, serves}
use Rattle.plant_serving.proofs.server.serve_port.Goals as goal

pub returns-in_default-clause-served : goal.returns-in_default-clause-served
returns-in_default-clause-served g c =
    serves_none c.args.limits.now c.args.count (g.D.Disk.shown c.args.plant.origin) c.args.plant.memory (g.O.Outside.seen c.args.outside.now)

pub returns-in-Err-clause-served : goal.returns-in-Err-clause-served
returns-in-Err-clause-served g c =
    let limits = c.args.limits.now in
    let origin = g.D.Disk.shown c.args.plant.origin in
    let seen = g.O.Outside.seen c.args.outside.now in
    subst (λ (p : PlantView g.row.D.Denot). Serves limits c.args.count origin c.args.plant.memory p.memory seen seen v.NoMemory) (sym c.in-Err.ensures.back)
    (serves_none limits c.args.count origin c.args.plant.memory seen)

pub returns-clause-served : goal.returns-clause-served
returns-clause-served g c =
    serves g.D.Disk.shown c.args.limits.now c.args.count (g.O.Outside.seen c.args.outside.now) c.in-Ok-new.made.0 c.args.plant c.serve_in_scope-last.result.0
    c.close.result.memory (g.O.Outside.seen c.serve_in_scope-last.new.outside) c.serve_in_scope-last.result.1 c.in-Ok-new.ensures.lock c.close.ensures.history
    (ap (λ f. f.frame) c.close.ensures.frame) c.serve_in_scope-last.ensures
