use Rattle.std.proofs.Common.{◌≡◌, ◌∙◌, ap, sym, rules, w32, to_z, of_z}
use Rattle.day_rows.specs.Chronicle.{date_of}
use Rattle.plant_memory.specs.Chronicle.{today}
use Rattle.plant_memory.specs.Memory.{MemoryView, PreparedRollView}
use Rattle.plant_memory.proofs.MemoryLemmas.{today-rolled}
use Rattle.plant_core.proofs.LogLemmas.{date-roll}
use Rattle.plant_core.proofs.load.add_day.Goals as goal

pub adopt-requires-clause-date : goal.adopt-requires-clause-date
adopt-requires-clause-date c =
    let day : to_z w32 (of_z w32 c.date.result) ≡ c.date.result = search rules in
    let open_date = ap (λ (m : MemoryView). date_of m.frame.first m.entries) c.commit_roll.ensures.after ∙ date-roll c.prepare_roll.new.self.frame.first c.prepare_roll.new.self.entries c.in_ok-roll.roll.by c.in_ok-roll.roll.date in
    sym (open_date ∙ ap (λ (r : PreparedRollView). r.date) c.in_ok-roll.ensures.ok ∙ day ∙ c.date.ensures.value)

pub adopt-requires-clause-begun : goal.adopt-requires-clause-begun
adopt-requires-clause-begun c =
    ap (λ (m : MemoryView). today m.entries) c.commit_roll.ensures.after ∙ today-rolled c.in_ok-roll.roll.date c.in_ok-roll.roll.by c.prepare_roll.new.self.entries
