use Rattle.plant_memory.proofs.LawLemmas.{view-by_dates}
use Rattle.plant_memory.proofs.laws.view_is_its_dates.Goals as goal

pub returns : goal.returns
returns c = view-by_dates
