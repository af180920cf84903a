use Rattle.std.proofs.Common.{◌≡◌, ◌∙◌, ap, length, refl, w32, w64, to_z, of_z, rules}
use Rattle.plant_memory.specs.Memory.{MemoryView}
use Rattle.plant_core.proofs.SoloLemmas.{waits_alone, rolls_alone, wants_alone, fails_roll_alone, roll_made, fault_made, solo_goes, solo_fails_now}
use Rattle.plant_core.proofs.solo.SoloAccess.tick.Goals as goal

pub returns-then-not-is_next_day : goal.returns-then-not-is_next_day
returns-then-not-is_next_day g c =
    let now : to_z w64 (of_z w64 c.args.now) ≡ c.args.now = search rules in
    let date : to_z w32 (of_z w32 c.date.result) ≡ c.date.result = search rules in
    let early = rw (now, date, c.date.ensures) at c.if-not-is_next_day.ensures in
    rw (← c.self.view_is) (waits_alone _ _ refl c.self.inside.plant.memory _ _ _ _ _ _ _ early c.length-length.ensures.value c.saturating_add-self-inside.ensures)

pub returns-in_default : goal.returns-in_default
returns-in_default g c =
    let now : to_z w64 (of_z w64 c.args.now) ≡ c.args.now = search rules in
    let date : to_z w32 (of_z w32 c.date.result) ≡ c.date.result = search rules in
    let late = rw (now, date, c.date.ensures) at c.if-not-is_next_day.ensures in
    let frame = ap (λ (m : MemoryView). m.frame) c.prepare_roll.ensures.unchanged in
    let entries = ap (λ (m : MemoryView). m.entries) c.prepare_roll.ensures.unchanged in
    rw (← c.self.view_is) (wants_alone _ _ c.prepare_roll.ensures.disk.origin c.self.inside.plant.memory c.prepare_roll.new.self.memory _ _ _ _ _ _ late c.saturating_add-self-inside.ensures frame entries)

pub invariant_of-self-in-Ok-commit_roll : goal.invariant_of-self-in-Ok-commit_roll
invariant_of-self-in-Ok-commit_roll g c =
    let entries = ap (λ (m : MemoryView). m.entries) c.prepare_roll.ensures.unchanged in
    let made = roll_made c.self.inside.plant.memory c.prepare_roll.new.self.memory c.commit_roll.new.self.memory c.in-Ok.roll _ entries c.in-Ok.ensures.ok (ap (λ (m : MemoryView). m.entries) c.in-Ok-commit_roll.ensures.logged) in
    solo_goes c.self.inside.plant.memory c.commit_roll.new.self.memory _ _ _ _ c.self.invariant made (refl, tt)

pub invariant_of-self-in-Err : goal.invariant_of-self-in-Err
invariant_of-self-in-Err g c =
    let entries = ap (λ (m : MemoryView). m.entries) c.prepare_roll.ensures.unchanged in
    let made = fault_made c.self.inside.plant.memory c.prepare_roll.new.self.memory c.commit_roll.new.self.memory c.in-Ok.roll _ entries c.in-Ok.ensures.ok (ap (λ (m : MemoryView). m.entries) c.in-Err.ensures.failed) in
    solo_fails_now c.self.inside.plant.memory c.commit_roll.new.self.memory _ _ _ _ c.self.invariant made c.length-length.ensures.value

pub returns-in-Ok-commit_roll : goal.returns-in-Ok-commit_roll
returns-in-Ok-commit_roll g c =
    let now : to_z w64 (of_z w64 c.args.now) ≡ c.args.now = search rules in
    let date : to_z w32 (of_z w32 c.date.result) ≡ c.date.result = search rules in
    let late = rw (now, date, c.date.ensures) at c.if-not-is_next_day.ensures in
    let frame = ap (λ (m : MemoryView). m.frame) c.prepare_roll.ensures.unchanged in
    let entries = ap (λ (m : MemoryView). m.entries) c.prepare_roll.ensures.unchanged in
    let made = roll_made c.self.inside.plant.memory c.prepare_roll.new.self.memory c.commit_roll.new.self.memory c.in-Ok.roll _ entries c.in-Ok.ensures.ok (ap (λ (m : MemoryView). m.entries) c.in-Ok-commit_roll.ensures.logged) in
    let place = c.in-Ok-commit_roll.ensures.place ∙ ap length entries in
    rw (← c.self.view_is) (rolls_alone _ _ (ap g.D.Disk.shown c.commit_roll.ensures.origin ∙ c.prepare_roll.ensures.disk.origin) c.self.inside.plant.memory c.commit_roll.new.self.memory _ _ _ _ _ _ _ late place c.saturating_add-self-inside.ensures (ap (λ (m : MemoryView). m.frame) c.in-Ok-commit_roll.ensures.logged ∙ frame) made c.self.invariant.within)

pub returns-in-Err : goal.returns-in-Err
returns-in-Err g c =
    let now : to_z w64 (of_z w64 c.args.now) ≡ c.args.now = search rules in
    let date : to_z w32 (of_z w32 c.date.result) ≡ c.date.result = search rules in
    let late = rw (now, date, c.date.ensures) at c.if-not-is_next_day.ensures in
    let frame = ap (λ (m : MemoryView). m.frame) c.prepare_roll.ensures.unchanged in
    let entries = ap (λ (m : MemoryView). m.entries) c.prepare_roll.ensures.unchanged in
    let made = fault_made c.self.inside.plant.memory c.prepare_roll.new.self.memory c.commit_roll.new.self.memory c.in-Ok.roll _ entries c.in-Ok.ensures.ok (ap (λ (m : MemoryView). m.entries) c.in-Err.ensures.failed) in
    rw (← c.self.view_is) (fails_roll_alone _ _ (ap g.D.Disk.shown c.commit_roll.ensures.origin ∙ c.prepare_roll.ensures.disk.origin) c.self.inside.plant.memory c.commit_roll.new.self.memory _ _ _ _ _ _ _ late c.length-length.ensures.value c.saturating_add-self-inside.ensures (ap (λ (m : MemoryView). m.frame) c.in-Err.ensures.failed ∙ frame) made c.self.invariant.within)
