use Rattle.std.proofs.Common.{◌≡◌, ◌∙◌, ap, arith, length}
use Rattle.day_rows.specs.Day.{Day}
use Rattle.plant_memory.specs.Faults.{FaultsView}
use Rattle.plant_memory.specs.History.{Past}
use Rattle.plant_memory.proofs.TailLemmas.{length-entries_of}
use Rattle.plant_memory.proofs.history.Ended.add_entries.Goals as goal

pub place_of-place-requires : goal.place_of-place-requires
place_of-place-requires c =
    let updates : c.update_count.result ≡ length c.args.self.now.day.updates = c.update_count.ensures ∙ ap (λ (d : Day). length d.updates) c.deref-2.ensures ∙ ap (λ (p : Past). length p.day.updates) c.self.view_is in
    let faults : length c.marks.result.now ≡ length c.args.self.now.marks = ap length c.marks.ensures ∙ ap (λ (f : FaultsView). length f.marks) c.deref.ensures ∙ ap (λ (p : Past). length p.marks) c.self.view_is in
    omega (arith, length-entries_of c.args.self.now, updates, faults, c.requires)
