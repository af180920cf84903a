use Rattle.std.proofs.Common.{◌∙◌, ap, ◌++◌, ◌∷◌, [], sym}
use Rattle.q_values.proofs.ListLemmas.{gathered_more_get}
use Rattle.q_values.proofs.arena.Arena.gather.Goals as goal

pub loop-place-preserved : goal.loop-place-preserved
loop-place-preserved c =
    let n_in = c.loop-place-test.true in
    let more = gathered_more_get c.args.self.now c.args.places.now c.loop-place.place-index _ n_in (c.requires _ 0 n_in) c.at.ensures.value in
    c.in_ok-push.ensures.ok ∙ ap (λ l. l ++ c.at.result.now ∷ []) c.loop-place.invariant ∙ sym more
