use Rattle.q_matching.proofs.LawLemmas.{any_bytes_match_all}
use Rattle.q_matching.proofs.laws.any_bytes_match_all.Goals as goal

pub returns : goal.returns
returns c = any_bytes_match_all
