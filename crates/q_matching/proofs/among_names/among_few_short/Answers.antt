use Rattle.std.proofs.Common.{arith}
use Rattle.std.specs.List.{list_any}
use Rattle.std.specs.Ordering.{is_eq, nat_cmp}
use Rattle.std.specs.Cmp.Lexicographic.{slice_cmp}
use Rattle.q_lanes.proofs.MapLemmas.{map_more_at}
use Rattle.q_matching.proofs.among_names.among_few_short.Goals as goal

pub loop-item-preserved : goal.loop-item-preserved
loop-item-preserved c =
    let more = map_more_at (λ s. list_any (λ t. is_eq (slice_cmp nat_cmp s t)) c.args.items.now) c.args.left.now c.loop-item.item-index c.item-item.result c.loop-item-test.true c.item-item.is in
    record { items = cc (more, c.is_one_of_short.ensures); count = omega arith; room = omega arith }
