use Rattle.std.proofs.Common.{◌≡◌, ◌-◌, ◌*◌, length, take, drop, rules, arith, refl}
use Rattle.std.proofs.lemmas.List.{take_all, length-drop}
use Rattle.std.proofs.lemmas.Int.{to_z-of_z}
use Rattle.std.specs.Int.{w64}
use mir.Val.{SFits}
use Rattle.ipc_codec.specs.Numbers.{long_of, cells}
use Rattle.ipc_codec.proofs.CellsLemmas.{cells-more}
use Rattle.ipc_codec.proofs.elements.longs_in.Goals as goal

pub loop-i-init : goal.loop-i-init
unfolding cells
loop-i-init g c = search rules

pub loop-i-preserved : goal.loop-i-preserved
loop-i-preserved g c =
    let bytes = c.args.bytes.now in
    let i = c.loop-i.i in
    let all : take (length bytes - 8 * i) (drop (8 * i) bytes) ≡ drop (8 * i) bytes = take_all _ _ (omega (arith, length-drop (8 * i) bytes)) in
    let more = cells-more (long_of g.T.ByteOrder.number_of) 8 i bytes in
    let fits : SFits w64 c.read_i64.result = search rules in
    record {
      items = rw (c.push_reserved.ensures.items, c.loop-i.invariant.items, more, to_z-of_z w64 c.read_i64.result fits, c.read_i64.ensures, all) refl;
      count = omega arith;
      room = omega arith;
    }
