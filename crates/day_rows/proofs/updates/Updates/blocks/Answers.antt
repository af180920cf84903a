use Rattle.std.proofs.Common.{ap, sym, ◌∙◌}
use Rattle.day_rows.specs.Blocks.{Kept}
use Rattle.day_rows.specs.Filled.{Filled, filled}
use Rattle.day_rows.proofs.updates.Updates.blocks.Goals as goal

pub returns : goal.returns
returns c = sym (ap (λ (f : Filled). f.blocks) (ap (λ (k : Kept). filled k.updates) (sym c.self.view_is) ∙ c.self.invariant.counted.filled_is))
