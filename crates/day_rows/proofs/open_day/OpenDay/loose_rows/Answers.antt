use Rattle.std.proofs.Common.{ap, ◌∙◌}
use Rattle.day_rows.specs.Day.{Opened}
use Rattle.day_rows.specs.Filled.{filled}
use Rattle.day_rows.proofs.open_day.OpenDay.loose_rows.Goals as goal

pub returns-clause-value : goal.returns-clause-value
returns-clause-value c = c.loose_rows.ensures.value ∙ ap (λ (o : Opened). (filled o.day.updates).loose) c.self.view_is
