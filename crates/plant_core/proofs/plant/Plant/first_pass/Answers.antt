use Rattle.std.proofs.Common.{arith}
use Rattle.plant_core.proofs.TurnLemmas.{below_top}
use Rattle.plant_core.proofs.plant.Plant.first_pass.Goals as goal

pub returns-else-next-clause-fresh : goal.returns-else-next-clause-fresh
returns-else-next-clause-fresh g c = below_top _ _ (omega arith)
