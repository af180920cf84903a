use Rattle.std.proofs.Common.{◌≡◌, ◌∙◌, ap, w64, to_z, of_z, rules}
use Rattle.plant_memory.specs.Memory.{MemoryView}
use Rattle.plant_core.proofs.SoloLemmas.{logs_alone, looks_alone, fails_alone, solo_logs, solo_faults}
use Rattle.plant_core.proofs.solo.SoloAccess.upd.Goals as goal

pub returns-in-Err : goal.returns-in-Err
returns-in-Err g c =
    let now : to_z w64 (of_z w64 c.args.now) ≡ c.args.now = search rules in
    let same = c.in-Err.ensures.err in
    rw (← c.self.view_is) (looks_alone _ _ c.prepare.ensures.disk.origin c.self.inside.plant.memory c.prepare.new.self.memory _ _ _ _ _ _ _ _ _ (ap (λ (p : MemoryView). p.frame) same) (ap (λ (p : MemoryView). p.entries) same) c.length-length.ensures.value (rw now at c.in-Err.ensures.refused))

pub invariant_of-self-in-Logged : goal.invariant_of-self-in-Logged
invariant_of-self-in-Logged g c =
    let now : to_z w64 (of_z w64 c.args.now) ≡ c.args.now = search rules in
    solo_logs c.self.inside.plant.memory c.prepare.new.self.memory c.log.new.self.memory _ _ _ _ _ _ c.in-Ok.update _ _ c.self.invariant (rw now at c.in-Ok.ensures.ok) c.in-Logged.ensures.ends

pub invariant_of-self-in-Failed : goal.invariant_of-self-in-Failed
invariant_of-self-in-Failed g c =
    let now : to_z w64 (of_z w64 c.args.now) ≡ c.args.now = search rules in
    solo_faults c.self.inside.plant.memory c.prepare.new.self.memory c.log.new.self.memory _ _ _ _ _ _ c.in-Ok.update _ _ c.self.invariant (rw now at c.in-Ok.ensures.ok) c.in-Failed.ensures.ends

pub returns-in-Logged : goal.returns-in-Logged
returns-in-Logged g c =
    let now : to_z w64 (of_z w64 c.args.now) ≡ c.args.now = search rules in
    rw (← c.self.view_is) (logs_alone _ _ (ap g.D.Disk.shown c.log.ensures.origin ∙ c.prepare.ensures.disk.origin) c.self.inside.plant.memory c.prepare.new.self.memory c.log.new.self.memory _ _ _ _ _ _ _ c.in-Ok.update _ _ (rw now at c.in-Ok.ensures.ok) c.in-Logged.ensures.ends c.self.invariant.within)

pub returns-in-Failed : goal.returns-in-Failed
returns-in-Failed g c =
    let now : to_z w64 (of_z w64 c.args.now) ≡ c.args.now = search rules in
    rw (← c.self.view_is) (fails_alone _ _ (ap g.D.Disk.shown c.log.ensures.origin ∙ c.prepare.ensures.disk.origin) c.self.inside.plant.memory c.prepare.new.self.memory c.log.new.self.memory _ _ _ _ _ _ _ c.in-Ok.update _ _ (rw now at c.in-Ok.ensures.ok) c.in-Failed.ensures.ends c.self.invariant.within)

pub returns-in-NoMemory : goal.returns-in-NoMemory
returns-in-NoMemory g c =
    let now : to_z w64 (of_z w64 c.args.now) ≡ c.args.now = search rules in
    let made = rw now at c.in-Ok.ensures.ok in
    let frame = ap (λ (p : MemoryView). p.frame) c.in-NoMemory.ensures.ends ∙ ap (λ (p : MemoryView). p.frame) made.after in
    let entries = ap (λ (p : MemoryView). p.entries) c.in-NoMemory.ensures.ends ∙ ap (λ (p : MemoryView). p.entries) made.after in
    rw (← c.self.view_is) (looks_alone _ _ (ap g.D.Disk.shown c.log.ensures.origin ∙ c.prepare.ensures.disk.origin) c.self.inside.plant.memory c.log.new.self.memory _ _ _ _ _ _ _ _ _ frame entries c.length-length.ensures.value tt)
