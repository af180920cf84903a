use Rattle.std.proofs.Common.{◌≡◌, ◌∙◌, ◌∷◌, ◌++◌, [], ℕ, ℤ, Option, ap, sym, subst, rules, w32, to_z, of_z}
use Rattle.std.specs.Prelude.{◌<ℤ◌}
use Rattle.day_rows.specs.Chronicle.{date_of}
use Rattle.day_rows.specs.declared.entry.Entry.{Entry}
use Rattle.day_rows.specs.declared.entry.Entry.TheVariants as e
use Rattle.plant_memory.specs.Memory.{MemoryView}
use Rattle.plant_core.specs.Plant.{StoresLog, LeavesLog, RestartsAllAlong}
use Rattle.plant_core.proofs.PlantLemmas.{plant, next-date, roll-stored, roll-along, roll-plant, roll-left, roll-failed}
use Rattle.plant_core.proofs.plant.Plant.commit_roll.Goals as goal

-- a roll of equal numbers
same_roll : (by by' : ℕ) (date date' : ℤ) → by ≡ by' → date ≡ date' → e.Roll by date ≡ e.Roll by' date'
same_roll by by' date date' own day = λ i. e.Roll (own i) (day i)

pub roll-requires-clause-allowed : goal.roll-requires-clause-allowed
roll-requires-clause-allowed g c =
    let day : to_z w32 (of_z w32 c.date.result) ≡ c.date.result = search rules in
    let frame = rw (← c.self.view_is) at c.requires.frame in
    let same = rw (← c.self.view_is) at c.requires.same in
    let later : date_of c.self.inside.memory.frame.first c.self.inside.memory.entries <ℤ c.args.roll.date = rw (← frame, ← same) c.date.ensures.later in
    rw (day, c.by-by.ensures.value, c.date.ensures.value) (next-date _ c.args.roll.by c.args.roll.date c.self.invariant c.by-by.ensures.few later c.date.ensures.last)

pub invariant_of-self : goal.invariant_of-self
invariant_of-self g c =
    let day : to_z w32 (of_z w32 c.date.result) ≡ c.date.result = search rules in
    let frame = rw (← c.self.view_is) at c.requires.frame in
    let same = rw (← c.self.view_is) at c.requires.same in
    let later : date_of c.self.inside.memory.frame.first c.self.inside.memory.entries <ℤ c.args.roll.date = rw (← frame, ← same) c.date.ensures.later in
    let lawful = next-date _ c.args.roll.by c.args.roll.date c.self.invariant c.by-by.ensures.few later c.date.ensures.last in
    let roll = same_roll c.args.roll.by c.by-by.result c.args.roll.date (to_z w32 (of_z w32 c.date.result)) (sym c.by-by.ensures.value) (sym (day ∙ c.date.ensures.value)) in
    let entries = ap (λ (m : MemoryView). m.entries) c.commit_roll.ensures.after ∙ ap (λ (x : Entry). c.self.inside.memory.entries ++ x ∷ []) roll in
    roll-plant c.self.inside.memory c.commit_roll.new.self c.self.inside.logs c.roll-2.new.self (g.D.Disk.shown c.self.inside.disk) (g.D.Disk.shown c.roll-2.new.disk) (g.D.Disk.shown c.self.inside.origin.value) c.by-by.result (to_z w32 (of_z w32 c.date.result))
    (ap (λ (m : MemoryView). m.frame) c.commit_roll.ensures.after) entries c.in-Ok.ensures.added c.roll-2.ensures.ready c.in-Ok.ensures.opened
    (rw (day, c.by-by.ensures.value, c.date.ensures.value) lawful) (rw (day, c.date.ensures.value) later) c.in-Ok.ensures.counts.0 c.self.invariant

pub invariant_of-self-in-Err-1 : goal.invariant_of-self-in-Err-1
invariant_of-self-in-Err-1 g c =
    roll-failed c.self.inside.memory c.note_fault.new.self c.self.inside.logs c.roll-2.new.self (g.D.Disk.shown c.self.inside.disk) (g.D.Disk.shown c.roll-2.new.disk) (g.D.Disk.shown c.self.inside.origin.value) c.by-by.result (to_z w32 (of_z w32 c.date.result))
    (ap (λ (m : MemoryView). m.frame) c.note_fault.ensures.after) (ap (λ (m : MemoryView). m.entries) c.note_fault.ensures.after) c.in-Err.ensures.failed c.roll-2.ensures.ready c.in-Err.ensures.records
    c.in-Err.ensures.counts.0 c.self.invariant

pub returns-in-Ok-clause-stored : goal.returns-in-Ok-clause-stored
returns-in-Ok-clause-stored g c =
    let day : to_z w32 (of_z w32 c.date.result) ≡ c.date.result = search rules in
    let roll = same_roll c.args.roll.by c.by-by.result c.args.roll.date (to_z w32 (of_z w32 c.date.result)) (sym c.by-by.ensures.value) (sym (day ∙ c.date.ensures.value)) in
    let entries = ap (λ (m : MemoryView). m.entries) c.commit_roll.ensures.after ∙ ap (λ (x : Entry). c.self.inside.memory.entries ++ x ∷ []) roll in
    rw (← c.self.view_is)
    (roll-stored c.self.inside.memory c.commit_roll.new.self c.self.inside.logs c.roll-2.new.self (g.D.Disk.shown c.self.inside.disk) (g.D.Disk.shown c.roll-2.new.disk) (g.D.Disk.shown c.self.inside.origin.value) c.by-by.result (to_z w32 (of_z w32 c.date.result))
    (ap (λ (m : MemoryView). m.frame) c.commit_roll.ensures.after) entries c.in-Ok.ensures.added)

pub returns-in-Ok-clause-any_moment : goal.returns-in-Ok-clause-any_moment
returns-in-Ok-clause-any_moment g c =
    let day : to_z w32 (of_z w32 c.date.result) ≡ c.date.result = search rules in
    let roll = same_roll c.args.roll.by c.by-by.result c.args.roll.date (to_z w32 (of_z w32 c.date.result)) (sym c.by-by.ensures.value) (sym (day ∙ c.date.ensures.value)) in
    let before = plant c.self.inside.memory c.self.inside.logs (g.D.Disk.shown c.self.inside.disk) (g.D.Disk.shown c.self.inside.origin.value) in
    let after = plant c.commit_roll.new.self c.roll-2.new.self (g.D.Disk.shown c.roll-2.new.disk) (g.D.Disk.shown c.self.inside.origin.value) in
    rw (← c.self.view_is)
    (subst (λ (x : Entry). (late : Option Entry) → StoresLog before late → RestartsAllAlong before after late x) (sym roll)
    (roll-along c.self.inside.memory c.commit_roll.new.self c.self.inside.logs c.roll-2.new.self (g.D.Disk.shown c.self.inside.disk) (g.D.Disk.shown c.roll-2.new.disk) (g.D.Disk.shown c.self.inside.origin.value) c.by-by.result (to_z w32 (of_z w32 c.date.result))
    (ap (λ (m : MemoryView). m.frame) c.commit_roll.ensures.after) c.roll-2.ensures.any_moment))

pub returns-in-Err-clause-left : goal.returns-in-Err-clause-left
returns-in-Err-clause-left g c =
    let day : to_z w32 (of_z w32 c.date.result) ≡ c.date.result = search rules in
    let roll = same_roll c.args.roll.by c.by-by.result c.args.roll.date (to_z w32 (of_z w32 c.date.result)) (sym c.by-by.ensures.value) (sym (day ∙ c.date.ensures.value)) in
    let before = plant c.self.inside.memory c.self.inside.logs (g.D.Disk.shown c.self.inside.disk) (g.D.Disk.shown c.self.inside.origin.value) in
    let after = plant c.note_fault.new.self c.roll-2.new.self (g.D.Disk.shown c.roll-2.new.disk) (g.D.Disk.shown c.self.inside.origin.value) in
    rw (← c.self.view_is)
    (subst (λ (x : Entry). (late : Option Entry) → StoresLog before late → LeavesLog after late x) (sym roll)
    (roll-left c.self.inside.memory c.note_fault.new.self c.self.inside.logs c.roll-2.new.self (g.D.Disk.shown c.self.inside.disk) (g.D.Disk.shown c.roll-2.new.disk) (g.D.Disk.shown c.self.inside.origin.value) c.by-by.result (to_z w32 (of_z w32 c.date.result))
    (ap (λ (m : MemoryView). m.frame) c.note_fault.ensures.after) (ap (λ (m : MemoryView). m.entries) c.note_fault.ensures.after) c.in-Err.ensures.failed))

pub returns-in-Err-clause-any_moment : goal.returns-in-Err-clause-any_moment
returns-in-Err-clause-any_moment g c =
    let day : to_z w32 (of_z w32 c.date.result) ≡ c.date.result = search rules in
    let roll = same_roll c.args.roll.by c.by-by.result c.args.roll.date (to_z w32 (of_z w32 c.date.result)) (sym c.by-by.ensures.value) (sym (day ∙ c.date.ensures.value)) in
    let before = plant c.self.inside.memory c.self.inside.logs (g.D.Disk.shown c.self.inside.disk) (g.D.Disk.shown c.self.inside.origin.value) in
    let after = plant c.note_fault.new.self c.roll-2.new.self (g.D.Disk.shown c.roll-2.new.disk) (g.D.Disk.shown c.self.inside.origin.value) in
    rw (← c.self.view_is)
    (subst (λ (x : Entry). (late : Option Entry) → StoresLog before late → RestartsAllAlong before after late x) (sym roll)
    (roll-along c.self.inside.memory c.note_fault.new.self c.self.inside.logs c.roll-2.new.self (g.D.Disk.shown c.self.inside.disk) (g.D.Disk.shown c.roll-2.new.disk) (g.D.Disk.shown c.self.inside.origin.value) c.by-by.result (to_z w32 (of_z w32 c.date.result))
    (ap (λ (m : MemoryView). m.frame) c.note_fault.ensures.after) c.roll-2.ensures.any_moment))
