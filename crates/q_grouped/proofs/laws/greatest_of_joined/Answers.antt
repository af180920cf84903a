use Rattle.q_grouped.proofs.ExtremeLemmas.{greatest_of_joined}
use Rattle.q_grouped.proofs.laws.greatest_of_joined.Goals as goal

pub returns : goal.returns
returns c = greatest_of_joined
