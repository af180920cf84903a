use Rattle.q_matching.proofs.LawLemmas.{plain_pattern_is_itself}
use Rattle.q_matching.proofs.laws.plain_pattern_is_itself.Goals as goal

pub returns : goal.returns
returns c = plain_pattern_is_itself
