use Rattle.std.proofs.Common.{arith}
use Rattle.plant_core.proofs.SoloLemmas.{solo_begins}
use Rattle.plant_core.proofs.solo.Solo.new.Goals as goal

pub invariant_of-result : goal.invariant_of-result
invariant_of-result g c = solo_begins c.args.plant.memory _ _ c.next_by.ensures (omega (arith, c.next_by.ensures, c.requires)) c.length.ensures.value
