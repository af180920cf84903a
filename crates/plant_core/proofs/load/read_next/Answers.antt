use Rattle.std.proofs.Common.{◌∷◌, Option, ℤ, subst}
use Rattle.date_logs.specs.Restart.{Dated}
use Rattle.date_loading.specs.Loading.{dated}
use Rattle.date_loading.specs.Manifests.{IsBefore}
use Rattle.plant_core.proofs.ReadLemmas.{has-more, loading-more, next-refused, reads-on, leaves-any}
use Rattle.plant_core.proofs.load.read_next.Goals as goal

pub returns-in-Ok-clause-loading : goal.returns-in-Ok-clause-loading
returns-in-Ok-clause-loading g c =
    let x : Dated = dated c.in-Ok-Some.found in
    let further = rw c.in-Ok-Some.field-0-is at c.in-Ok-Some.ensures.goes_on in
    let day = rw c.in-Ok-Some.field-0-is at c.in-Ok-Some.ensures.day in
    let more = has-more (g.D.Disk.shown c.args._origin.now.value) (g.D.Disk.shown c.args.disk.now) (g.D.Disk.shown c.next_day.new.disk) c.args._date c.args.loading.now c.next_day.new.self c.args.memory.now.frame.schema
    (c.requires.earliest ∷ c.requires.later) x c.requires.read c.in-Ok-Some.ensures.counts.0 c.in-Ok-Some.ensures.counts.1 c.next_day.ensures.bytes (rw (c.in-Ok-Some.field-0-is, c.schema.ensures) at c.in-Ok-Some.ensures.read) (rw (c.in-Ok-Some.field-0-is, c.schema.ensures) at c.in-Ok-Some.ensures.loaded)
    c.in-Ok-Some.ensures.gates further.manifest c.next_day.ensures.under_way in
    loading-more c.in-Ok-Some.found.day.day.kinds (g.D.Disk.shown c.args._origin.now.value) (g.D.Disk.shown c.args.disk.now) (g.D.Disk.shown c.next_day.new.disk) c.args._date c.args.loading.now c.next_day.new.self c.args.memory.now c.add_day.new.memory
    x c.requires more further.last (subst (λ (o : Option ℤ). IsBefore o c.in-Ok-Some.found.day.day.date) c.requires.last day.later) c.in-Ok.ensures.frame c.in-Ok.ensures.entries c.in-Ok.ensures.updates

pub returns-in-Err-clause-refused : goal.returns-in-Err-clause-refused
returns-in-Err-clause-refused g c =
    next-refused (g.D.Disk.shown c.args._origin.now.value) (g.D.Disk.shown c.args.disk.now) c.args._date c.args.loading.now c.args.memory.now.frame.schema (c.requires.earliest ∷ c.requires.later) c.requires.read c.in-Err.why (rw c.schema.ensures at c.in-Err.ensures.refused)

pub returns-in-Err-clause-unchanged : goal.returns-in-Err-clause-unchanged
returns-in-Err-clause-unchanged g c =
    leaves-any (g.D.Disk.shown c.args._origin.now.value) (g.D.Disk.shown c.next_day.new.disk) c.in-Err.why
    (reads-on (g.D.Disk.shown c.args._origin.now.value) (g.D.Disk.shown c.args.disk.now) (g.D.Disk.shown c.next_day.new.disk) c.requires.read.same c.next_day.ensures.bytes)
