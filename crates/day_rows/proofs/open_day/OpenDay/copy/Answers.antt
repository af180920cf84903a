use Rattle.std.proofs.Common.{arith}
use Rattle.day_rows.proofs.open_day.OpenDay.copy.Goals as goal

pub invariant_of-result : goal.invariant_of-result
invariant_of-result c =
    let day = c.self.invariant.0 in
    rw (c.in_ok-tables.ensures, c.deref.ensures.value, c.in_ok-updates.ensures) (
      record { few = day.few; tables = day.tables; updates = day.updates; bounded = day.bounded },
      record { updates = tt; bounded = omega (arith, day.bounded) },
      c.self.invariant.2,
    )
