use Rattle.day_rows.proofs.ViewLemmas.{view-open, view-ended}
use Rattle.day_rows.proofs.chronicle.view_is_by_dates.Goals as goal

pub returns : goal.returns
returns c = record { arrival = view-open; symbol = view-ended }
