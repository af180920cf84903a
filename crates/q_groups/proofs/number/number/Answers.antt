use Rattle.q_groups.proofs.GroupLemmas.{with_item-seen}
use Rattle.q_groups.proofs.number.number.Goals as goal

pub returns-in-Some-clause-values : goal.returns-in-Some-clause-values
returns-in-Some-clause-values g c = with_item-seen g.T.PartialEq.eq c.args.values.now.keys c.args.item c.in-Some.ensures.seen
