use Rattle.std.proofs.Common.{◌∙◌}
use Rattle.q_keys.proofs.KeyLemmas.{ranking_refined}
use Rattle.q_keys.proofs.keys.refined_by_number.Goals as goal

pub returns : goal.returns
returns c = λ atoms rows of_first of_rows.
    let numbers = c.in_ok-ranking.ensures in
    let pairs = c.in_ok-pairs.ensures in
    ranking_refined atoms rows c.args.first.ranks.items c.args.first.firsts.items c.args.rest.ranks.items c.args.rest.firsts.items
    c.in_ok-ranking.ranking.ranks.items c.in_ok-ranking.ranking.firsts.items c.in_ok-pairs.pairs.items of_first of_rows (c.requires.even ∙ of_first.size) pairs.fit pairs.pairs
    (rw c.from_column-numbers.ensures at numbers)
