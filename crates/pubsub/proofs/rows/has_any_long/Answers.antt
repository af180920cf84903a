use Rattle.std.proofs.Common.{◌<◌, length, arith, sym, ◌∙◌}
use Rattle.std.specs.List.{list_any}
use Rattle.std.specs.Str.{bytes_eq}
use Rattle.pubsub.proofs.RowLemmas.{any_found, none_more}
use Rattle.pubsub.proofs.rows.has_any_long.Goals as goal

pub returns-then-has : goal.returns-then-has
returns-then-has c =
    sym (any_found (λ name. list_any (bytes_eq name) c.args.set.now) c.args.names.now c.loop-i.i c.at.result.now c.at.ensures.value (sym c.has.ensures ∙ c.if-has.true))

pub loop-i-preserved : goal.loop-i-preserved
loop-i-preserved c =
    let inside : c.loop-i.i < length c.args.names.now = omega (arith, c.len-i-end.ensures) in
    none_more (λ name. list_any (bytes_eq name) c.args.set.now) c.args.names.now c.loop-i.i c.at.result.now inside c.at.ensures.value c.loop-i.invariant (sym c.has.ensures ∙ c.if-has.false)
