use Rattle.std.proofs.Common.{ℕ, ap₂, sym, ◌∙◌, min}
use Rattle.q_lanes.proofs.ZipLemmas.{zip_count}
use Rattle.q_lanes.proofs.lane.ZippedItems.count.Goals as goal

pub returns : goal.returns
returns g c =
    c.min.ensures
    ∙ ap₂ (λ (n m : ℕ). min n m) c.count.ensures c.count-2.ensures
    ∙ sym (zip_count g.S.Step.value (g.L.Items.list c.args.self.now.left.now) (g.R.Items.list c.args.self.now.right.now))
