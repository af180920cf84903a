use Rattle.std.proofs.Common.{ℤ, subst}
use Rattle.std.specs.Int.{w32}
use Rattle.std.proofs.lemmas.Int.{to_z-of_z}
use Rattle.std.proofs.lemmas.Result.{err_from_is_err_and}
use Rattle.date_loading.specs.Refusals.{LogRefuses}
use Rattle.date_loading.proofs.logs.load_log.Goals as goal

pub returns-in_err-log-clause-refused : goal.returns-in_err-log-clause-refused
returns-in_err-log-clause-refused g c =
    let p = err_from_is_err_and c.from_residual.result c.from_residual.ensures.1 in
    rw (p.1, p.2)
    (subst (λ (d : ℤ). LogRefuses (g.D.Disk.shown c.args.disk.now) c.args.schema.now d c.in_err-log.field-0.0) (to_z-of_z w32 c.args.date c.ranges.date)
    (c.in_err-log.ensures.refused c.args.schema.now))
