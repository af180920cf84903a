use Rattle.q_unary.proofs.LawLemmas.{sum_of_joined}
use Rattle.q_unary.proofs.laws.sum_of_joined.Goals as goal

pub returns : goal.returns
returns c = sum_of_joined
