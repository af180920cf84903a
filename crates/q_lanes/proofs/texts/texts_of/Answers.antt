use Rattle.std.proofs.Common.{refl, arith, length, ◌<◌}
use Rattle.std.proofs.lemmas.List.{map_push, take_more}
use Rattle.std.proofs.lemmas.Option.{get_or_from_slice_get}
use Rattle.q_lanes.proofs.texts.texts_of.Goals as goal

pub loop-i-preserved : goal.loop-i-preserved
loop-i-preserved g c =
    let text = c.text.result.now in
    let texts = g.L.TextList.texts c.args.symbols.now in
    let in' : c.loop-i.i < length texts = omega (arith, c.loop-i-test.true, c.count-i-end.ensures) in
    rw (c.push_reserved.ensures.items, map_push, c.loop-i.invariant, take_more texts c.loop-i.i text in', get_or_from_slice_get texts c.loop-i.i text text c.text.ensures) refl
