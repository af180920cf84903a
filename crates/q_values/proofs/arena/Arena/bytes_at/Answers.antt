use Rattle.std.proofs.Common.{arith, ◌∙◌, ap, length, ◌∷◌, [], take}
use Rattle.std.specs.List.{sum_by}
use Rattle.std.proofs.lemmas.List.Sums.{sum_by-append, sum_by-cons}
use Rattle.q_values.specs.Lists.{gathered}
use Rattle.q_values.proofs.ListLemmas.{gathered_more_get}
use Rattle.q_values.proofs.arena.Arena.bytes_at.Goals as goal

pub loop-place-preserved : goal.loop-place-preserved
loop-place-preserved c =
    let n_in = c.loop-place-test.true in
    let symbol = c.at.result.now in
    let more = gathered_more_get c.args.self.now c.args.places.now c.loop-place.place-index symbol n_in (c.requires _ 0 n_in) c.at.ensures.value in
    let sum = sum_by-append length (gathered c.args.self.now (take c.loop-place.place-index c.args.places.now)) (symbol ∷ []) in
    omega (arith, c.saturating_add-total.ensures, c.loop-place.invariant, ap (sum_by length) more ∙ sum, sum_by-cons length symbol [])
