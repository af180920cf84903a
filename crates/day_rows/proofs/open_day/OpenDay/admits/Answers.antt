use Rattle.std.proofs.Common.{arith, ap, ◌≤◌, ◌+◌}
use Rattle.day_rows.specs.Day.{Opened, total_rows}
use Rattle.day_rows.proofs.open_day.OpenDay.admits.Goals as goal

pub returns-then-saturating_add-le-MAX_ROWS : goal.returns-then-saturating_add-le-MAX_ROWS
returns-then-saturating_add-le-MAX_ROWS c =
    let own = ap (λ (o : Opened). o.day.kinds) c.self.view_is in
    let rows = ap (λ (o : Opened). total_rows o.day.updates) c.self.view_is in
    let more = ap total_rows c.as_slice.ensures in
    let updates = rw (c.deref.ensures.value, c.as_slice-then-saturating_add-le-MAX_ROWS.ensures, own) at c.are_updates.ensures in
    let fits : total_rows c.args.self.now.day.updates + total_rows c.args.entries.now ≤ 4294967295 =
    omega (arith, c.if-saturating_add-le-MAX_ROWS.true, c.saturating_add.ensures, c.in-Some.ensures.some, c.self.invariant.2, rows, more) in
    (λ h. (updates.0 h, fits), λ h. updates.1 h.0)
