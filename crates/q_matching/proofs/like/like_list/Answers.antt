use Rattle.std.proofs.Common.{◌<◌, arith, length}
use Rattle.q_verbs.specs.Like.{matches}
use Rattle.q_lanes.proofs.MapLemmas.{map_more_read}
use Rattle.q_matching.proofs.like.like_list.Goals as goal

pub loop-i-preserved : goal.loop-i-preserved
loop-i-preserved g c =
    let in_items : c.loop-i.i < length (g.L.TextList.texts c.args.items.now) = omega arith in
    let more = map_more_read (matches c.args.pattern.now) (g.L.TextList.texts c.args.items.now) c.loop-i.i c.text.result.now in_items c.text.ensures in
    record { items = cc (more, c.in_ok-is_match.ensures); count = omega arith; room = omega arith }
