use Rattle.q_unary.proofs.LeastLemmas.{least_is_item}
use Rattle.q_unary.proofs.laws.least_is_item.Goals as goal

pub returns : goal.returns
returns c = least_is_item
