use Rattle.std.proofs.Common.{arith}
use Rattle.day_rows.proofs.open_day.OpenDay.new.Goals as goal

pub invariant_of-result : goal.invariant_of-result
invariant_of-result c =
    rw c.in_ok-updates.ensures (
      record { few = c.in_ok-tables.ensures.few; tables = c.in_ok-tables.ensures.lawful; updates = tt; bounded = omega arith },
      record { updates = tt; bounded = omega arith },
      omega (arith, c.len.ensures),
    )
