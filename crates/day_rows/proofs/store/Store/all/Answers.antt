use Rattle.std.proofs.Common.{ap, ◌∙◌}
use Rattle.std.specs.List.{flat_map}
use Rattle.day_rows.proofs.PieceLemmas.{lent-push}
use Rattle.day_rows.proofs.store.Store.all.Goals as goal

pub returns : goal.returns
returns c =
    ap (flat_map (λ block. block.now)) c.in_ok-push.ensures.items ∙ lent-push (λ block. block.now) c.in_ok-all.all.items c.args.self.now.blocks _ c.in_ok-all.ensures
