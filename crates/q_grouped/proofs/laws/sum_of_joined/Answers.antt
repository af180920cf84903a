use Rattle.q_grouped.proofs.LawLemmas.{sum_of_joined_parts}
use Rattle.q_grouped.proofs.laws.sum_of_joined.Goals as goal

pub returns : goal.returns
returns c = sum_of_joined_parts
