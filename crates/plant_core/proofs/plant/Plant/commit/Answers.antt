use Rattle.std.proofs.Common.{ap}
use Rattle.plant_memory.specs.Memory.{MemoryView, kinds_of}
use Rattle.plant_core.proofs.PlantLemmas.{fits, update-stored, update-along, update-plant, update-left, update-failed}
use Rattle.plant_core.proofs.plant.Plant.commit.Goals as goal
use Rattle.plant_core.proofs.plant.Plant.commit.Goals.{in-Some-1, in-None-2}

pub invariant_of-self : goal.invariant_of-self
invariant_of-self g c =
    let fit = fits c.self.inside.memory c.args.update c.chunk.result.now.bytes (rw (← c.self.view_is) at c.requires.frame) (rw (← c.self.view_is) at c.requires.follows) c.chunk.ensures.chunk c.chunk.ensures.bounded in
    let frame = ap (λ (m : MemoryView). m.frame) c.commit.ensures.after in
    let entries = ap (λ (m : MemoryView). m.entries) c.commit.ensures.after in
    update-plant c.self.inside.memory c.commit.new.self c.self.inside.logs c.append.new.self _ _ _ (kinds_of c.args.update.frame.schema) c.args.update.entry c.chunk.result.now.bytes frame c.chunk.ensures.update fit
    entries c.in-Ok.ensures.added c.append.ensures.ready c.append.ensures.records c.in-Ok.ensures.counts.0 c.self.invariant

pub invariant_of-self-in-Err : goal.invariant_of-self-in-Err
invariant_of-self-in-Err g c =
    let fit = fits c.self.inside.memory c.args.update c.chunk.result.now.bytes (rw (← c.self.view_is) at c.requires.frame) (rw (← c.self.view_is) at c.requires.follows) c.chunk.ensures.chunk c.chunk.ensures.bounded in
    let frame = ap (λ (m : MemoryView). m.frame) c.note_fault.ensures.after in
    let entries = ap (λ (m : MemoryView). m.entries) c.note_fault.ensures.after in
    update-failed c.self.inside.memory c.note_fault.new.self c.self.inside.logs c.append.new.self _ _ _ (kinds_of c.args.update.frame.schema) c.args.update.entry c.chunk.result.now.bytes frame c.chunk.ensures.update fit
    c.by.result entries c.in-Err.ensures.failed c.append.ensures.ready c.append.ensures.records c.in-Err.ensures.counts.0 c.self.invariant

pub invariant_of-self-in-Err-2 : goal.invariant_of-self-in-Err-2
invariant_of-self-in-Err-2 g c =
    let fit = fits c.self.inside.memory c.args.update c.chunk.result.now.bytes (rw (← c.self.view_is) at c.requires.frame) (rw (← c.self.view_is) at c.requires.follows) c.chunk.ensures.chunk c.chunk.ensures.bounded in
    let frame = ap (λ (m : MemoryView). m.frame) c.note_fault.ensures.after in
    let entries = ap (λ (m : MemoryView). m.entries) c.note_fault.ensures.after in
    update-failed c.self.inside.memory c.note_fault.new.self c.self.inside.logs c.append.new.self _ _ _ (kinds_of c.args.update.frame.schema) c.args.update.entry c.chunk.result.now.bytes frame c.chunk.ensures.update fit
    c.by.result entries c.in-Err.ensures.failed c.append.ensures.ready c.append.ensures.records c.in-Err.ensures.counts.0 c.self.invariant

pub returns-in-Ok-clause-stored : goal.returns-in-Ok-clause-stored
returns-in-Ok-clause-stored g c =
    let fit = fits c.self.inside.memory c.args.update c.chunk.result.now.bytes (rw (← c.self.view_is) at c.requires.frame) (rw (← c.self.view_is) at c.requires.follows) c.chunk.ensures.chunk c.chunk.ensures.bounded in
    let frame = ap (λ (m : MemoryView). m.frame) c.commit.ensures.after in
    let entries = ap (λ (m : MemoryView). m.entries) c.commit.ensures.after in
    rw (← c.self.view_is)
    (update-stored c.self.inside.memory c.commit.new.self c.self.inside.logs c.append.new.self (g.D.Disk.shown c.self.inside.disk) (g.D.Disk.shown c.append.new.disk) (g.D.Disk.shown c.self.inside.origin.value) (kinds_of c.args.update.frame.schema) c.args.update.entry c.chunk.result.now.bytes frame c.chunk.ensures.update fit
    entries c.in-Ok.ensures.added)

pub returns-in-Ok-clause-any_moment : goal.returns-in-Ok-clause-any_moment
returns-in-Ok-clause-any_moment g c =
    let fit = fits c.self.inside.memory c.args.update c.chunk.result.now.bytes (rw (← c.self.view_is) at c.requires.frame) (rw (← c.self.view_is) at c.requires.follows) c.chunk.ensures.chunk c.chunk.ensures.bounded in
    let frame = ap (λ (m : MemoryView). m.frame) c.commit.ensures.after in
    rw (← c.self.view_is)
    (update-along c.self.inside.memory c.commit.new.self c.self.inside.logs c.append.new.self (g.D.Disk.shown c.self.inside.disk) (g.D.Disk.shown c.append.new.disk) (g.D.Disk.shown c.self.inside.origin.value) (kinds_of c.args.update.frame.schema) c.args.update.entry c.chunk.result.now.bytes frame c.chunk.ensures.update fit
    c.append.ensures.any_moment)

pub returns-in-Err-clause-left : goal.returns-in-Err-clause-left
returns-in-Err-clause-left g c =
    let fit = fits c.self.inside.memory c.args.update c.chunk.result.now.bytes (rw (← c.self.view_is) at c.requires.frame) (rw (← c.self.view_is) at c.requires.follows) c.chunk.ensures.chunk c.chunk.ensures.bounded in
    let frame = ap (λ (m : MemoryView). m.frame) c.note_fault.ensures.after in
    let entries = ap (λ (m : MemoryView). m.entries) c.note_fault.ensures.after in
    let left = update-left c.self.inside.memory c.note_fault.new.self c.self.inside.logs c.append.new.self (g.D.Disk.shown c.self.inside.disk) (g.D.Disk.shown c.append.new.disk) (g.D.Disk.shown c.self.inside.origin.value) (kinds_of c.args.update.frame.schema) c.args.update.entry c.chunk.result.now.bytes frame c.chunk.ensures.update fit
    c.by.result entries c.in-Err.ensures.failed in
    elim c.match-update-3.branch [ in-Some-1 w ↦ rw (← c.self.view_is, w.self-is) left | in-None-2 w ↦ rw (← c.self.view_is, w.self-is) left ]

pub returns-in-Err-clause-any_moment : goal.returns-in-Err-clause-any_moment
returns-in-Err-clause-any_moment g c =
    let fit = fits c.self.inside.memory c.args.update c.chunk.result.now.bytes (rw (← c.self.view_is) at c.requires.frame) (rw (← c.self.view_is) at c.requires.follows) c.chunk.ensures.chunk c.chunk.ensures.bounded in
    let frame = ap (λ (m : MemoryView). m.frame) c.note_fault.ensures.after in
    let along = update-along c.self.inside.memory c.note_fault.new.self c.self.inside.logs c.append.new.self (g.D.Disk.shown c.self.inside.disk) (g.D.Disk.shown c.append.new.disk) (g.D.Disk.shown c.self.inside.origin.value) (kinds_of c.args.update.frame.schema) c.args.update.entry c.chunk.result.now.bytes frame c.chunk.ensures.update fit
    c.append.ensures.any_moment in
    elim c.match-update-3.branch [ in-Some-1 w ↦ rw (← c.self.view_is, w.self-is) along | in-None-2 w ↦ rw (← c.self.view_is, w.self-is) along ]
