use Rattle.std.proofs.Common.{◌<◌, ◌++◌, ◌∷◌, [], length, sym, ◌∙◌, arith}
use Rattle.pubsub.proofs.FilterLemmas.{mapped_more}
use Rattle.publications.specs.Answer.{pair_tree}
use Rattle.publications.proofs.answer.pairs_of.Goals as goal

pub loop-i-preserved : goal.loop-i-preserved
loop-i-preserved c =
    let inside : c.loop-i.i < length c.args.schema.now = omega (arith, c.len-i-end.ensures.value) in
    c.in_ok-push.ensures.ok
    ∙ (λ j. c.loop-i.invariant j ++ c.in_ok-pair_of.ensures j ∷ [])
    ∙ sym (mapped_more pair_tree c.args.schema.now c.loop-i.i c.at.result.now inside c.at.ensures.value)
