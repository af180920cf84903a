use Rattle.q_grouped.proofs.ExtremeLemmas.{least_of_joined}
use Rattle.q_grouped.proofs.laws.least_of_joined.Goals as goal

pub returns : goal.returns
returns c = least_of_joined
