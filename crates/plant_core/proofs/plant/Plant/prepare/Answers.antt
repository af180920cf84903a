use Rattle.std.proofs.Common.{refl}
use Rattle.plant_core.proofs.PlantLemmas.{still, judged-same}
use Rattle.plant_core.proofs.plant.Plant.prepare.Goals as goal

pub invariant_of-self : goal.invariant_of-self
invariant_of-self g c =
    let same = judged-same c.prepare.result c.self.inside.memory c.prepare.new.self _ _ _ _ c.prepare.ensures.ok c.prepare.ensures.err in
    still c.self.inside.memory c.prepare.new.self (g.D.Disk.shown c.self.inside.disk) (g.D.Disk.shown c.self.inside.origin.value) same.0 same.1 c.self.inside.logs c.self.inside.logs c.self.invariant refl refl refl
