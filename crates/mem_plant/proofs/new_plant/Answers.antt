use Rattle.std.proofs.Common.{refl, rules, w32, to_z, of_z, ◌≡◌}
use Rattle.outside_mem.specs.MemDisk.{shown_by}
use Rattle.mem_plant.proofs.NewLemmas.{new-is}
use Rattle.mem_plant.proofs.new_plant.Goals as goal

pub returns-in-Ok-load : goal.returns-in-Ok-load
returns-in-Ok-load c =
    let day : to_z w32 (of_z w32 c.args.date) ≡ c.args.date = search rules in
    new-is c.files_restart_once.ensures (shown_by c.format.new.disk) c.args.schema c.args.date c.args.limits.now c.in-Ok-load.plant.memory (rw c.schema.view_is at c.schema.invariant) refl
    (c.in-Ok.ensures.restarts refl c.in-Ok-load.plant.memory.frame.first) (c.in-Ok.ensures.manifest refl) (rw day at c.in-Ok-load.ensures.loaded) c.in-Ok-load.ensures.schema c.in-Ok-load.ensures.limits
