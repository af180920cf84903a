use Rattle.std.proofs.Common.{◌≡◌, ◌-◌, ◌*◌, length, take, drop, rules, arith, refl}
use Rattle.std.proofs.lemmas.List.{take_all, length-drop}
use Rattle.std.proofs.lemmas.Int.{to_z-of_z}
use Rattle.std.specs.Int.{w16}
use mir.Val.{SFits}
use Rattle.ipc_codec.specs.Numbers.{short_of, cells}
use Rattle.ipc_codec.proofs.CellsLemmas.{cells-more}
use Rattle.ipc_codec.proofs.elements.shorts_in.Goals as goal

pub loop-i-init : goal.loop-i-init
unfolding cells
loop-i-init g c = search rules

pub loop-i-preserved : goal.loop-i-preserved
loop-i-preserved g c =
    let bytes = c.args.bytes.now in
    let i = c.loop-i.i in
    let all : take (length bytes - 2 * i) (drop (2 * i) bytes) ≡ drop (2 * i) bytes = take_all _ _ (omega (arith, length-drop (2 * i) bytes)) in
    let more = cells-more (short_of g.T.ByteOrder.number_of) 2 i bytes in
    let fits : SFits w16 c.read_i16.result = search rules in
    record {
      items = rw (c.push_reserved.ensures.items, c.loop-i.invariant.items, more, to_z-of_z w16 c.read_i16.result fits, c.read_i16.ensures, all) refl;
      count = omega arith;
      room = omega arith;
    }
