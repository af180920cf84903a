use Rattle.std.proofs.Common.{refl, ap}
use Rattle.plant_memory.specs.Memory.{MemoryView}
use Rattle.plant_core.proofs.PlantLemmas.{still}
use Rattle.plant_core.proofs.plant.Plant.prepare_roll.Goals as goal

pub invariant_of-self : goal.invariant_of-self
invariant_of-self g c =
    still c.self.inside.memory c.self.inside.memory (g.D.Disk.shown c.self.inside.disk) (g.D.Disk.shown c.self.inside.origin.value) refl refl c.self.inside.logs c.reserve.new.self c.self.invariant
    c.reserve.ensures.records c.reserve.ensures.journal c.reserve.ensures.log

pub invariant_of-self-2 : goal.invariant_of-self-2
invariant_of-self-2 g c =
    let same = c.prepare_roll.ensures.unchanged in
    still c.self.inside.memory c.prepare_roll.new.self (g.D.Disk.shown c.self.inside.disk) (g.D.Disk.shown c.self.inside.origin.value) (ap (λ (m : MemoryView). m.frame) same) (ap (λ (m : MemoryView). m.entries) same)
    c.self.inside.logs c.reserve.new.self c.self.invariant c.reserve.ensures.records c.reserve.ensures.journal c.reserve.ensures.log
