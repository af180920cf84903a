use Rattle.plant_memory.proofs.CauseLemmas.{first_cause-refuses}
use Rattle.plant_memory.proofs.laws.first_cause_refuses.Goals as goal

pub returns : goal.returns
returns c = first_cause-refuses
