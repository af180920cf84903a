use Rattle.std.proofs.Common.{◌≡◌, ◌∙◌, ap, arith, length}
use Rattle.day_rows.specs.Day.{Day}
use Rattle.plant_memory.specs.Faults.{FaultsView}
use Rattle.plant_memory.specs.History.{Past}
use Rattle.plant_memory.proofs.TailLemmas.{length-entries_of}
use Rattle.plant_memory.proofs.history.Ended.len.Goals as goal

pub overflow_add-result : goal.overflow_add-result
overflow_add-result c =
    let updates : c.update_count.result ≡ length c.args.self.now.day.updates = c.update_count.ensures ∙ ap (λ (d : Day). length d.updates) c.deref.ensures ∙ ap (λ (p : Past). length p.day.updates) c.self.view_is in
    let faults : c.len.result ≡ length c.args.self.now.marks = c.len.ensures ∙ ap (λ (f : FaultsView). length f.marks) c.deref-2.ensures ∙ ap (λ (p : Past). length p.marks) c.self.view_is in
    omega (arith, length-entries_of c.args.self.now, updates, faults, c.requires)

pub overflow_add-result-2 : goal.overflow_add-result-2
overflow_add-result-2 c =
    let updates : c.update_count.result ≡ length c.args.self.now.day.updates = c.update_count.ensures ∙ ap (λ (d : Day). length d.updates) c.deref.ensures ∙ ap (λ (p : Past). length p.day.updates) c.self.view_is in
    let faults : c.len.result ≡ length c.args.self.now.marks = c.len.ensures ∙ ap (λ (f : FaultsView). length f.marks) c.deref-2.ensures ∙ ap (λ (p : Past). length p.marks) c.self.view_is in
    omega (arith, length-entries_of c.args.self.now, updates, faults, c.requires)

pub returns : goal.returns
returns c =
    let updates : c.update_count.result ≡ length c.args.self.now.day.updates = c.update_count.ensures ∙ ap (λ (d : Day). length d.updates) c.deref.ensures ∙ ap (λ (p : Past). length p.day.updates) c.self.view_is in
    let faults : c.len.result ≡ length c.args.self.now.marks = c.len.ensures ∙ ap (λ (f : FaultsView). length f.marks) c.deref-2.ensures ∙ ap (λ (p : Past). length p.marks) c.self.view_is in
    omega (arith, length-entries_of c.args.self.now, updates, faults)
