use Rattle.std.proofs.Common.{subst}
use Rattle.day_rows.specs.Day.{Opened, IsDay}
use Rattle.day_rows.proofs.open_day.OpenDay.date.Goals as goal

pub returns-clause-lawful : goal.returns-clause-lawful
returns-clause-lawful c = subst (λ (o : Opened). IsDay o.day) c.self.view_is c.self.invariant.0
