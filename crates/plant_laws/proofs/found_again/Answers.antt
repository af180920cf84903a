use Rattle.plant_laws.proofs.FoundLemmas.{found-again}
use Rattle.plant_laws.proofs.found_again.Goals as goal

pub returns : goal.returns
returns c = found-again c.files_restart_once.ensures
