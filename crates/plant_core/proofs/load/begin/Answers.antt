use Rattle.std.proofs.Common.{◌≡◌, ◌∙◌, ap, refl, rules, w32, to_z, of_z}
use Rattle.plant_memory.specs.Memory.{MemoryView}
use Rattle.plant_core.proofs.LoadLemmas.{undated-opens, begin-whole, begin-loaded}
use Rattle.plant_core.proofs.load.begin.Goals as goal

pub begin-requires-2-clause-allowed : goal.begin-requires-2-clause-allowed
begin-requires-2-clause-allowed g c =
    let day : to_z w32 (of_z w32 c.args.date) ≡ c.args.date = search rules in
    rw day (undated-opens _ _ c.args.date c.args.loading c.args.schema c.requires.read c.in-Undated.manifest c.reserve.new.self c.in-Undated.ensures.finished c.reserve.ensures.records c.reserve.ensures.journal c.requires.first c.requires.last)

pub returns-in-Ok-clause-read : goal.returns-in-Ok-clause-read
returns-in-Ok-clause-read g c =
    let day : to_z w32 (of_z w32 c.args.date) ≡ c.args.date = search rules in
    let tables = ap (λ (v : MemoryView). v.frame.schema) c.in_ok-memory.ensures in
    let first = ap (λ (v : MemoryView). v.frame.first) c.in_ok-memory.ensures ∙ day in
    let entries = ap (λ (v : MemoryView). v.entries) c.in_ok-memory.ensures in
    record {
      whole = begin-whole (g.D.Disk.shown c.args.origin.now.value) (g.D.Disk.shown c.args.disk.now) c.args.date c.args.loading c.args.schema c.requires.read c.in-Undated.manifest c.reserve.new.self c.in-Undated.ensures.finished
          c.reserve.ensures.records c.reserve.ensures.journal c.in_ok-memory.memory c.in-Ok.logs (g.D.Disk.shown c.begin-2.new.disk) tables first entries c.requires.first c.requires.last
          (rw day at c.in-Ok.ensures.stored) c.in-Ok.ensures.ready (rw day at c.in-Ok.ensures.records) c.in-Ok.ensures.counts.0;
      opened = rw (entries, first) refl;
      loaded = begin-loaded (g.D.Disk.shown c.args.origin.now.value) (g.D.Disk.shown c.args.disk.now) c.args.date c.args.loading c.args.schema c.requires.read c.in-Undated.manifest c.reserve.new.self c.in-Undated.ensures.finished
          c.reserve.ensures.records c.reserve.ensures.journal c.in_ok-memory.memory tables first entries c.finish.ensures.restarts;
    }
