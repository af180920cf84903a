use Rattle.q_grouped.proofs.LawLemmas.{count_of_joined}
use Rattle.q_grouped.proofs.laws.count_of_joined.Goals as goal

pub returns : goal.returns
returns c = count_of_joined
