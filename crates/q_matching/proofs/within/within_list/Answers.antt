use Rattle.std.proofs.Common.{◌<◌, arith, length}
use Rattle.q_values.specs.declared.atom.Atom.TheVariants as a
use Rattle.q_verbs.specs.Numbers.{worth}
use Rattle.q_verbs.specs.Tests.{lies_within}
use Rattle.q_lanes.proofs.MapLemmas.{map_more_read}
use Rattle.q_matching.proofs.within.within_list.Goals as goal

pub loop-i-preserved : goal.loop-i-preserved
loop-i-preserved g c =
    let in_items : c.loop-i.i < length (g.L.TextList.texts c.args.items.now) = omega arith in
    let more = map_more_read (λ s. lies_within (worth (a.Symbol c.args.low.now)) (worth (a.Symbol c.args.high.now)) (worth (a.Symbol s))) (g.L.TextList.texts c.args.items.now) c.loop-i.i c.text.result.now in_items c.text.ensures in
    record { items = cc; count = omega arith; room = omega arith }
