use Rattle.q_grouped.proofs.LawLemmas.{last_of_joined}
use Rattle.q_grouped.proofs.laws.last_of_joined.Goals as goal

pub returns : goal.returns
returns c = last_of_joined
