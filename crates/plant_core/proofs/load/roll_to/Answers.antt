use Rattle.std.proofs.Common.{◌≡◌, ◌∙◌, ◌∷◌, ◌++◌, [], ap, rules, arith, w32, to_z, of_z}
use Rattle.std.specs.Prelude.{◌<ℤ◌}
use Rattle.day_rows.specs.Chronicle.{date_of}
use Rattle.day_rows.specs.declared.entry.Entry.TheVariants as e
use Rattle.plant_memory.specs.Memory.{MemoryView}
use Rattle.plant_core.specs.Progress.{plant_of}
use Rattle.plant_core.proofs.PlantLemmas.{next-date}
use Rattle.plant_core.proofs.LoadLemmas.{roll-whole}
use Rattle.plant_core.proofs.load.roll_to.Goals as goal

pub roll-requires-clause-allowed : goal.roll-requires-clause-allowed
roll-requires-clause-allowed g c =
    let day : to_z w32 (of_z w32 c.args.date) ≡ c.args.date = search rules in
    let later : date_of c.args.memory.frame.first c.args.memory.entries <ℤ c.args.date = search rules in
    rw (day, c.reserve.ensures.records) (next-date (plant_of c.args.memory c.args.logs (g.D.Disk.shown c.args.disk.now) (g.D.Disk.shown c.args._origin.now.value)) 0 c.args.date c.requires.whole.plant (omega arith) later c.requires.last)

pub roll-requires-clause-ready : goal.roll-requires-clause-ready
roll-requires-clause-ready g c =
    record { manifest = rw c.reserve.ensures.journal c.requires.whole.plant.ready.manifest; log = rw c.reserve.ensures.log c.requires.whole.plant.ready.log }

pub returns-in-Ok-roll-clause-whole : goal.returns-in-Ok-roll-clause-whole
returns-in-Ok-roll-clause-whole g c =
    let day : to_z w32 (of_z w32 c.args.date) ≡ c.args.date = search rules in
    let later : date_of c.args.memory.frame.first c.args.memory.entries <ℤ c.args.date = search rules in
    let same = c.prepare_roll.ensures.unchanged in
    let frame = ap (λ (x : MemoryView). x.frame) c.commit_roll.ensures.after ∙ ap (λ (x : MemoryView). x.frame) same in
    let before = ap (λ (x : MemoryView). x.entries) same in
    let entries = ap (λ (x : MemoryView). x.entries) c.commit_roll.ensures.after ∙ (λ i. before i ++ e.Roll (c.in-Ok-prepare_roll.ensures.ok i).by (c.in-Ok-prepare_roll.ensures.ok i).date ∷ []) in
    roll-whole (g.D.Disk.shown c.args._origin.now.value) (g.D.Disk.shown c.args.disk.now) (g.D.Disk.shown c.roll.new.disk) c.args.memory c.commit_roll.new.self c.args.logs c.reserve.new.self c.roll.new.self c.args.date c.requires.whole
    c.reserve.ensures.records c.reserve.ensures.journal c.reserve.ensures.log frame (rw day at entries) (rw day at c.in-Ok-roll.ensures.added) c.roll.ensures.ready (rw day at c.in-Ok-roll.ensures.opened) later c.requires.last c.in-Ok-roll.ensures.counts.0
