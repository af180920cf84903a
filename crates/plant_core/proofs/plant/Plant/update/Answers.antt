use Rattle.std.proofs.Common.{◌≡◌, ◌∙◌, ap, refl, w64, to_z, of_z, rules, arith}
use Rattle.plant_memory.specs.Memory.{MemoryView}
use Rattle.plant_core.proofs.SoloLemmas.{logs_alone, looks_alone, fails_alone}
use Rattle.plant_core.proofs.TurnLemmas.{none_added, update_added, fault_added}
use Rattle.plant_core.proofs.plant.Plant.update.Goals as goal

pub returns-in-Err-clause-turn : goal.returns-in-Err-clause-turn
returns-in-Err-clause-turn g c =
    let now : to_z w64 (of_z w64 c.args.now) ≡ c.args.now = search rules in
    let same = c.in-Err.ensures.err in
    looks_alone _ _ refl c.args.self.now.memory c.prepare.new.self.memory _ _ _ _ _ _ _ _ _ (ap (λ (p : MemoryView). p.frame) same) (ap (λ (p : MemoryView). p.entries) same) c.length-length.ensures.value (rw now at c.in-Err.ensures.refused)

pub returns-in-Err-clause-made : goal.returns-in-Err-clause-made
returns-in-Err-clause-made g c = none_added _ _ _ (ap (λ (p : MemoryView). p.entries) c.in-Err.ensures.err)

pub returns-in-Logged-clause-turn : goal.returns-in-Logged-clause-turn
returns-in-Logged-clause-turn g c =
    let now : to_z w64 (of_z w64 c.args.now) ≡ c.args.now = search rules in
    logs_alone _ _ refl c.args.self.now.memory c.prepare.new.self.memory c.log.new.self.memory _ _ _ _ _ _ _ c.in-Ok.update _ _ (rw now at c.in-Ok.ensures.ok) c.in-Logged.ensures.ends (omega arith)

pub returns-in-Logged-clause-made : goal.returns-in-Logged-clause-made
returns-in-Logged-clause-made g c =
    let now : to_z w64 (of_z w64 c.args.now) ≡ c.args.now = search rules in
    update_added c.args.self.now.memory c.prepare.new.self.memory c.log.new.self.memory _ _ _ _ c.in-Ok.update _ _ (rw now at c.in-Ok.ensures.ok) c.in-Logged.ensures.ends

pub returns-in-Failed-clause-turn : goal.returns-in-Failed-clause-turn
returns-in-Failed-clause-turn g c =
    let now : to_z w64 (of_z w64 c.args.now) ≡ c.args.now = search rules in
    fails_alone _ _ refl c.args.self.now.memory c.prepare.new.self.memory c.log.new.self.memory _ _ _ _ _ _ _ c.in-Ok.update _ _ (rw now at c.in-Ok.ensures.ok) c.in-Failed.ensures.ends (omega arith)

pub returns-in-Failed-clause-made : goal.returns-in-Failed-clause-made
returns-in-Failed-clause-made g c =
    let now : to_z w64 (of_z w64 c.args.now) ≡ c.args.now = search rules in
    fault_added c.args.self.now.memory c.prepare.new.self.memory c.log.new.self.memory _ _ _ _ c.in-Ok.update _ _ (rw now at c.in-Ok.ensures.ok) c.in-Failed.ensures.ends

pub returns-in-NoMemory-clause-turn : goal.returns-in-NoMemory-clause-turn
returns-in-NoMemory-clause-turn g c =
    let now : to_z w64 (of_z w64 c.args.now) ≡ c.args.now = search rules in
    let made = rw now at c.in-Ok.ensures.ok in
    let frame = ap (λ (p : MemoryView). p.frame) c.in-NoMemory.ensures.ends ∙ ap (λ (p : MemoryView). p.frame) made.after in
    let entries = ap (λ (p : MemoryView). p.entries) c.in-NoMemory.ensures.ends ∙ ap (λ (p : MemoryView). p.entries) made.after in
    looks_alone _ _ refl c.args.self.now.memory c.log.new.self.memory _ _ _ _ _ _ _ _ _ frame entries c.length-length.ensures.value tt

pub returns-in-NoMemory-clause-made : goal.returns-in-NoMemory-clause-made
returns-in-NoMemory-clause-made g c = none_added _ _ _ (ap (λ (p : MemoryView). p.entries) c.in-NoMemory.ensures.ends ∙ ap (λ (p : MemoryView). p.entries) c.in-Ok.ensures.ok.after)
