use Rattle.q_grouped.proofs.LawLemmas.{first_of_joined}
use Rattle.q_grouped.proofs.laws.first_of_joined.Goals as goal

pub returns : goal.returns
returns c = first_of_joined
