use Rattle.std.proofs.Common.{ap, sym, ◌∙◌}
use Rattle.day_rows.specs.Blocks.{Kept}
use Rattle.day_rows.specs.Filled.{Filled, filled}
use Rattle.day_rows.proofs.KeptLemmas.{loose-fits}
use Rattle.day_rows.proofs.updates.Updates.loose_rows.Goals as goal

pub returns-clause-below : goal.returns-clause-below
returns-clause-below c =
    let blocks = c.self.inside.store.blocks in
    let last = c.self.inside.store.last in
    let held = c.self.inside.store.held in
    let shown = c.self.inside.shown in
    let room = c.self.inside.room in
    let sealed = c.self.inside.sealed in
    let before = c.self.inside.before in
    let loose = c.self.inside.loose in
    let counts = c.self.inside.counts.items in
    let rows = c.self.inside.rows in
    loose-fits blocks last held shown room sealed before loose counts rows c.self.invariant

pub returns-clause-value : goal.returns-clause-value
returns-clause-value c = sym (ap (λ (f : Filled). f.loose) (ap (λ (k : Kept). filled k.updates) (sym c.self.view_is) ∙ c.self.invariant.counted.filled_is))
