use Rattle.std.proofs.Common.{◌≡◌, ◌<◌, ◌++◌, ◌∷◌, [], length, arith, sym, ◌∙◌}
use Rattle.day_rows.specs.declared.schema.Shape.{Shape}
use Rattle.pubsub.proofs.FilterLemmas.{mapped_more}
use Rattle.pubsub.proofs.subscription.copy_names.Goals as goal

pub loop-i-preserved : goal.loop-i-preserved
loop-i-preserved c =
    let inside : c.loop-i.i < length c.args.schema.now = omega (arith, c.len-i-end.ensures.value) in
    let same : c.in_ok-copied.field-0 ≡ c.at.result.now.table = c.in_ok-copied.ensures ∙ c.bytes.ensures.value in
    c.in_ok-push.ensures.ok
    ∙ (λ i. c.loop-i.invariant i ++ same i ∷ [])
    ∙ sym (mapped_more (λ (s : Shape). s.table) c.args.schema.now c.loop-i.i c.at.result.now inside c.at.ensures.value)
