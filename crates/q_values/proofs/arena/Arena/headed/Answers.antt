use Rattle.std.proofs.Common.{refl, arith, length, ◌<◌}
use Rattle.std.proofs.lemmas.List.{map_push, take_more}
use Rattle.std.proofs.lemmas.Option.{get_or_from_slice_get}
use Rattle.q_values.proofs.arena.Arena.headed.Goals as goal

pub loop-i-preserved : goal.loop-i-preserved
loop-i-preserved c =
    let text = c.at-text.result.now in
    let in' : c.loop-i.i < length c.args.self.now = omega (arith, c.loop-i-test.true, c.len-i-end.ensures) in
    rw (c.push_reserved.ensures.items, map_push, c.loop-i.invariant, take_more c.args.self.now c.loop-i.i text in', get_or_from_slice_get c.args.self.now c.loop-i.i text text c.at-text.ensures.value, map_push, c.head_of.ensures) refl
