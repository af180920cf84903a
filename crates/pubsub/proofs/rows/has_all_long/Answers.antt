use Rattle.std.proofs.Common.{◌<◌, length, arith, sym, ◌∙◌}
use Rattle.std.specs.List.{list_any}
use Rattle.std.specs.Str.{bytes_eq}
use Rattle.pubsub.proofs.RowLemmas.{all_missed, all_more}
use Rattle.pubsub.proofs.rows.has_all_long.Goals as goal

pub returns-then-not-has : goal.returns-then-not-has
returns-then-not-has c =
    sym (all_missed (λ name. list_any (bytes_eq name) c.args.set.now) c.args.names.now c.loop-i.i c.at.result.now c.at.ensures.value (sym c.has.ensures ∙ c.if-not-has.true))

pub loop-i-preserved : goal.loop-i-preserved
loop-i-preserved c =
    let inside : c.loop-i.i < length c.args.names.now = omega (arith, c.len-i-end.ensures) in
    all_more (λ name. list_any (bytes_eq name) c.args.set.now) c.args.names.now c.loop-i.i c.at.result.now inside c.at.ensures.value c.loop-i.invariant (sym c.has.ensures ∙ c.if-not-has.false)
