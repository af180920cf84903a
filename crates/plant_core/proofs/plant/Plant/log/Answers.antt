use Rattle.std.proofs.Common.{◌≡◌, ◌∙◌, ap, length, true, rules}
use Rattle.plant_memory.specs.Memory.{MemoryView}
use Rattle.plant_core.proofs.SoloLemmas.{roll_faults, fault_made}
use Rattle.plant_core.proofs.plant.Plant.log.Goals as goal

pub returns-in-Err-clause-ends : goal.returns-in-Err-clause-ends
returns-in-Err-clause-ends g c =
    let rolls : c.args.update.rolls ≡ true = search rules in
    let frame = ap (λ (m : MemoryView). m.frame) c.in-Err.ensures.failed ∙ ap (λ (m : MemoryView). m.frame) c.prepare_roll.ensures.unchanged in
    let entries = ap (λ (m : MemoryView). m.entries) c.prepare_roll.ensures.unchanged in
    let made = fault_made c.args.self.now.memory c.prepare_roll.new.self.memory c.commit_roll.new.self.memory c.in-Ok.roll c.by-by.result entries c.in-Ok.ensures.ok (ap (λ (m : MemoryView). m.entries) c.in-Err.ensures.failed) in
    roll_faults c.args.self.now.memory c.commit_roll.new.self.memory c.args.update _ rolls frame (rw (← c.by-by.ensures.value) made) (c.length-place.ensures.value ∙ ap length entries)
