use Rattle.std.proofs.Common.{ap, ◌∙◌}
use Rattle.day_rows.specs.Day.{Opened}
use Rattle.day_rows.specs.Filled.{filled}
use Rattle.day_rows.proofs.open_day.OpenDay.blocks.Goals as goal

pub returns : goal.returns
returns c = c.blocks-2.ensures ∙ ap (λ (o : Opened). (filled o.day.updates).blocks) c.self.view_is
