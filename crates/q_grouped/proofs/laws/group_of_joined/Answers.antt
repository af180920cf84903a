use Rattle.q_grouped.proofs.LawLemmas.{group_of_joined}
use Rattle.q_grouped.proofs.laws.group_of_joined.Goals as goal

pub returns : goal.returns
returns c = group_of_joined
