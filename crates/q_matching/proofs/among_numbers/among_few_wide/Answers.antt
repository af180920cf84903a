use Rattle.std.proofs.Common.{map, ap, ◌∙◌}
use Rattle.std.specs.Int.{w64}
use Rattle.q_verbs.specs.Numbers.{number_in}
use Rattle.q_matching.proofs.AmongLemmas.{among_wide}
use Rattle.q_matching.proofs.among_numbers.among_few_wide.Goals as goal

pub returns : goal.returns
returns g c =
    let wide = ap (map (number_in w64)) c.as_slice.ensures.value ∙ c.in_ok-wide.ensures in
    c.in_ok-values.ensures ∙ among_wide g.T.Number.number g.U.Number.number c.args.left.now c.as_slice.result.now c.args.items.now wide
