use Rattle.std.proofs.Common.{◌<◌, arith, length}
use Rattle.std.specs.Ordering.{nat_cmp}
use Rattle.std.specs.Cmp.Lexicographic.{slice_cmp}
use Rattle.q_lanes.proofs.ZipLemmas.{zip2_more_read}
use Rattle.q_binary.proofs.comparison.compare_lists.Goals as goal

pub loop-i-preserved : goal.loop-i-preserved
loop-i-preserved g c =
    let left = g.L.TextList.texts c.args.left.now in
    let right = g.R.TextList.texts c.args.right.now in
    let in_left : c.loop-i.i < length left = omega arith in
    let in_right : c.loop-i.i < length right = omega arith in
    let more = zip2_more_read (λ s t. g.P.Relation.relates (slice_cmp nat_cmp s t)) left right c.loop-i.i c.text.result.now c.text-in-loop-i.result.now in_left in_right c.text.ensures c.text-in-loop-i.ensures in
    record { items = cc; count = omega arith; room = omega arith }
