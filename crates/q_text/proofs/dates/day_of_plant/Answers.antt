use Rattle.std.proofs.Common.{arith}
use Rattle.jiff_core.proofs.SignedLemmas.{signed_arith}
use Rattle.q_text.proofs.Calendars.{year_positive}
use Rattle.q_text.proofs.dates.day_of_plant.Goals as goal

pub returns-clause-positive : goal.returns-clause-positive
returns-clause-positive c =
    year_positive c.in-Ok.day.year c.in-Ok.day.month c.in-Ok.day.day (c.in-Ok.day.year_in, c.in-Ok.day.month_in, c.in-Ok.day.day_in) (omega (arith, signed_arith, c.in-Ok.ensures.value, c.requires))
