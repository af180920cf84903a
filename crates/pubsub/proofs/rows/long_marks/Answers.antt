use Rattle.std.proofs.Common.{◌<◌, ◌++◌, ◌∷◌, [], length, arith, sym, ◌∙◌}
use Rattle.std.specs.List.{list_any}
use Rattle.std.specs.Str.{bytes_eq}
use Rattle.pubsub.proofs.FilterLemmas.{mapped_more}
use Rattle.pubsub.proofs.rows.long_marks.Goals as goal

pub loop-i-preserved : goal.loop-i-preserved
loop-i-preserved c =
    let inside : c.loop-i.i < length c.args.names.now = omega (arith, c.len-i-end.ensures) in
    record {
      items = c.push_reserved.ensures.items ∙ (λ j. c.loop-i.invariant.items j ++ c.has.ensures j ∷ []) ∙ sym (mapped_more (λ name. list_any (bytes_eq name) c.args.set.now) c.args.names.now c.loop-i.i c.at.result.now inside c.at.ensures.value);
      count = omega (arith, c.push_reserved.ensures.len, c.loop-i.invariant.count);
      room = omega (arith, c.push_reserved.ensures.capacity, c.loop-i.invariant.room);
    }
