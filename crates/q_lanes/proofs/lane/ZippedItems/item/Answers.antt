use Rattle.std.proofs.Common.{Some, ap, sym, ◌∙◌}
use Rattle.q_lanes.proofs.ZipLemmas.{zip_left, zip_right, zip_at}
use Rattle.q_lanes.proofs.lane.ZippedItems.item.Goals as goal

pub item-requires : goal.item-requires
item-requires g c = zip_left g.S.Step.value (g.L.Items.list c.args.self.now.left.now) (g.R.Items.list c.args.self.now.right.now) c.args.i c.requires

pub item-requires-2 : goal.item-requires-2
item-requires-2 g c = zip_right g.S.Step.value (g.L.Items.list c.args.self.now.left.now) (g.R.Items.list c.args.self.now.right.now) c.args.i c.requires

pub returns : goal.returns
returns g c =
    zip_at g.S.Step.value (g.L.Items.list c.args.self.now.left.now) (g.R.Items.list c.args.self.now.right.now) c.args.i c.item.result c.item-2.result c.item.ensures c.item-2.ensures
    ∙ ap (λ u. Some u) (sym c.apply.ensures)
