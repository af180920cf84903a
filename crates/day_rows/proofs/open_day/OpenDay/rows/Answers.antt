use Rattle.std.proofs.Common.{ap, ◌∙◌, sym, subst}
use Rattle.std.specs.List.{sum_by}
use Rattle.day_rows.specs.Day.{Opened, IsDay}
use Rattle.day_rows.specs.Joined.{rows_in}
use Rattle.day_rows.proofs.RowsLemmas.{length-arrived}
use Rattle.day_rows.proofs.open_day.OpenDay.rows.Goals as goal

pub returns : goal.returns
returns c =
    let day = subst (λ (o : Opened). IsDay o.day) c.self.view_is c.self.invariant.0 in
    c.rows.ensures ∙ ap (λ (o : Opened). sum_by (rows_in c.args.table) o.day.updates) c.self.view_is ∙ sym (length-arrived c.args.self.now.day c.args.table day.updates)
