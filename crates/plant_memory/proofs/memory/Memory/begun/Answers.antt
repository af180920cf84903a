use Rattle.std.proofs.Common.{ap, ◌∙◌}
use Rattle.day_rows.specs.Day.{Opened}
use Rattle.plant_memory.specs.Memory.{MemoryView, kinds_of}
use Rattle.plant_memory.proofs.memory.Memory.begun.Goals as goal

pub reserve-requires-clause-updates : goal.reserve-requires-clause-updates
reserve-requires-clause-updates c =
    let kinds = ap (λ (o : Opened). o.day.kinds) c.in_ok-fresh.ensures ∙ ap kinds_of c.deref.ensures ∙ ap (λ (p : MemoryView). kinds_of p.frame.schema) c.self.view_is in
    rw kinds c.requires.updates
