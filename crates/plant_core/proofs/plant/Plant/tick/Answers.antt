use Rattle.std.proofs.Common.{◌≡◌, ◌∙◌, ap, length, refl, w32, w64, to_z, of_z, rules, arith}
use Rattle.plant_memory.specs.Memory.{MemoryView}
use Rattle.plant_core.proofs.SoloLemmas.{waits_alone, rolls_alone, wants_alone, fails_roll_alone, roll_made, fault_made}
use Rattle.plant_core.proofs.TurnLemmas.{none_added, one_added}
use Rattle.plant_core.proofs.plant.Plant.tick.Goals as goal

pub returns-then-not-is_next_day-clause-turn : goal.returns-then-not-is_next_day-clause-turn
returns-then-not-is_next_day-clause-turn g c =
    let now : to_z w64 (of_z w64 c.args.now) ≡ c.args.now = search rules in
    let date : to_z w32 (of_z w32 c.date.result) ≡ c.date.result = search rules in
    let early = rw (now, date, c.date.ensures) at c.if-not-is_next_day.ensures in
    waits_alone _ _ refl c.args.self.now.memory _ _ _ _ _ _ _ early c.length-length.ensures.value (omega arith)

pub returns-then-not-is_next_day-clause-made : goal.returns-then-not-is_next_day-clause-made
returns-then-not-is_next_day-clause-made g c = none_added _ _ _ refl

pub returns-in_default-clause-turn : goal.returns-in_default-clause-turn
returns-in_default-clause-turn g c =
    let now : to_z w64 (of_z w64 c.args.now) ≡ c.args.now = search rules in
    let date : to_z w32 (of_z w32 c.date.result) ≡ c.date.result = search rules in
    let late = rw (now, date, c.date.ensures) at c.if-not-is_next_day.ensures in
    let frame = ap (λ (m : MemoryView). m.frame) c.prepare_roll.ensures.unchanged in
    let entries = ap (λ (m : MemoryView). m.entries) c.prepare_roll.ensures.unchanged in
    wants_alone _ _ refl c.args.self.now.memory c.prepare_roll.new.self.memory _ _ _ _ _ _ late (omega arith) frame entries

pub returns-in_default-clause-made : goal.returns-in_default-clause-made
returns-in_default-clause-made g c = none_added _ _ _ (ap (λ (m : MemoryView). m.entries) c.prepare_roll.ensures.unchanged)

pub returns-in-Ok-commit_roll-clause-turn : goal.returns-in-Ok-commit_roll-clause-turn
returns-in-Ok-commit_roll-clause-turn g c =
    let now : to_z w64 (of_z w64 c.args.now) ≡ c.args.now = search rules in
    let date : to_z w32 (of_z w32 c.date.result) ≡ c.date.result = search rules in
    let late = rw (now, date, c.date.ensures) at c.if-not-is_next_day.ensures in
    let frame = ap (λ (m : MemoryView). m.frame) c.prepare_roll.ensures.unchanged in
    let entries = ap (λ (m : MemoryView). m.entries) c.prepare_roll.ensures.unchanged in
    let made = roll_made c.args.self.now.memory c.prepare_roll.new.self.memory c.commit_roll.new.self.memory c.in-Ok.roll _ entries c.in-Ok.ensures.ok (ap (λ (m : MemoryView). m.entries) c.in-Ok-commit_roll.ensures.logged) in
    let place = c.in-Ok-commit_roll.ensures.place ∙ ap length entries in
    rolls_alone _ _ refl c.args.self.now.memory c.commit_roll.new.self.memory _ _ _ _ _ _ _ late place (omega arith) (ap (λ (m : MemoryView). m.frame) c.in-Ok-commit_roll.ensures.logged ∙ frame) made (omega arith)

pub returns-in-Ok-commit_roll-clause-made : goal.returns-in-Ok-commit_roll-clause-made
returns-in-Ok-commit_roll-clause-made g c =
    let entries = ap (λ (m : MemoryView). m.entries) c.prepare_roll.ensures.unchanged in
    one_added _ _ _ _ refl (roll_made c.args.self.now.memory c.prepare_roll.new.self.memory c.commit_roll.new.self.memory c.in-Ok.roll _ entries c.in-Ok.ensures.ok (ap (λ (m : MemoryView). m.entries) c.in-Ok-commit_roll.ensures.logged))

pub returns-in-Err-clause-turn : goal.returns-in-Err-clause-turn
returns-in-Err-clause-turn g c =
    let now : to_z w64 (of_z w64 c.args.now) ≡ c.args.now = search rules in
    let date : to_z w32 (of_z w32 c.date.result) ≡ c.date.result = search rules in
    let late = rw (now, date, c.date.ensures) at c.if-not-is_next_day.ensures in
    let frame = ap (λ (m : MemoryView). m.frame) c.prepare_roll.ensures.unchanged in
    let entries = ap (λ (m : MemoryView). m.entries) c.prepare_roll.ensures.unchanged in
    let made = fault_made c.args.self.now.memory c.prepare_roll.new.self.memory c.commit_roll.new.self.memory c.in-Ok.roll _ entries c.in-Ok.ensures.ok (ap (λ (m : MemoryView). m.entries) c.in-Err.ensures.failed) in
    fails_roll_alone _ _ refl c.args.self.now.memory c.commit_roll.new.self.memory _ _ _ _ _ _ _ late c.length-length.ensures.value (omega arith) (ap (λ (m : MemoryView). m.frame) c.in-Err.ensures.failed ∙ frame) made (omega arith)

pub returns-in-Err-clause-made : goal.returns-in-Err-clause-made
returns-in-Err-clause-made g c =
    let entries = ap (λ (m : MemoryView). m.entries) c.prepare_roll.ensures.unchanged in
    one_added _ _ _ _ refl (fault_made c.args.self.now.memory c.prepare_roll.new.self.memory c.commit_roll.new.self.memory c.in-Ok.roll _ entries c.in-Ok.ensures.ok (ap (λ (m : MemoryView). m.entries) c.in-Err.ensures.failed))
