use Rattle.std.proofs.Common.{◌<◌, arith, length}
use Rattle.std.specs.List.{list_any}
use Rattle.std.specs.Ordering.{is_eq, nat_cmp}
use Rattle.std.specs.Cmp.Lexicographic.{slice_cmp}
use Rattle.q_lanes.proofs.MapLemmas.{map_more_read}
use Rattle.q_matching.proofs.among_names.among_few.Goals as goal

pub loop-i-preserved : goal.loop-i-preserved
loop-i-preserved g c =
    let left = g.L.TextList.texts c.args.left.now in
    let in_left : c.loop-i.i < length left = omega arith in
    let more = map_more_read (λ s. list_any (λ t. is_eq (slice_cmp nat_cmp s t.now)) c.args.items.now) left c.loop-i.i c.text.result.now in_left c.text.ensures in
    record { items = cc (more, c.is_one_of.ensures); count = omega arith; room = omega arith }
