use Rattle.std.proofs.Common.{◌∙◌}
use Rattle.std.specs.HashSet.{contains}
use Rattle.std.specs.Ordering.{int_eq}
use Rattle.q_matching.proofs.AmongLemmas.{among_set}
use Rattle.q_matching.proofs.among_numbers.among_many.Goals as goal

pub returns : goal.returns
returns g c = c.in_ok-values.ensures ∙ among_set g.T.Number.number g.U.Number.number (contains int_eq c.in_ok-set.set) c.args.left.now c.args.items.now c.in_ok-set.ensures
