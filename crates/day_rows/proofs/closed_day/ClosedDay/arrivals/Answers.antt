use Rattle.std.proofs.Common.{◌∙◌, subst, map}
use Rattle.q_values.specs.Order.{IsOrder, atom_cmp}
use Rattle.day_rows.specs.Day.{Day, IsDay, arrived}
use Rattle.day_rows.specs.Rows.{symbol_of}
use Rattle.day_rows.proofs.DayLemmas.{kept-order, arrivals-settled}
use Rattle.day_rows.proofs.Lists.{part-all}
use Rattle.day_rows.proofs.closed_day.ClosedDay.arrivals.Goals as goal

pub returns : goal.returns
returns c =
    let order = c.index-order.result.now in
    let K = subst (λ (d : Day). IsOrder atom_cmp (map symbol_of (arrived d c.args.table)) order) c.self.view_is
    (kept-order _ c.self.inside.orders.items c.args.table order c.self.invariant.1 (rw (← c.self.view_is) at (c.requires)) c.index-order.ensures) in
    let day : IsDay c.args.self.now = subst IsDay c.self.view_is c.self.invariant.0 in
    c.in_ok-arrivals.ensures ∙ c.in_ok-part.ensures ∙ part-all c.len.result order c.len.ensures ∙ arrivals-settled c.args.self.now c.args.table order day K
