use Rattle.std.proofs.Common.{ap, ◌∙◌, sym, subst}
use Rattle.std.specs.List.{sum_by}
use Rattle.day_rows.specs.Day.{Day, IsDay}
use Rattle.day_rows.specs.Joined.{rows_in}
use Rattle.day_rows.proofs.DayLemmas.{length-settled}
use Rattle.day_rows.proofs.RowsLemmas.{length-arrived}
use Rattle.day_rows.proofs.closed_day.ClosedDay.rows.Goals as goal

pub returns : goal.returns
returns c =
    let day : IsDay c.args.self.now = subst IsDay c.self.view_is c.self.invariant.0 in
    c.rows.ensures ∙ ap (λ (d : Day). sum_by (rows_in c.args.table) d.updates) c.self.view_is
    ∙ sym (length-arrived c.args.self.now c.args.table day.updates) ∙ sym (length-settled c.args.self.now c.args.table)
