use Rattle.q_keys.specs.Keys.{key_cmp}
use Rattle.q_keys.proofs.KeyLemmas.{key_total}
use Rattle.q_keys.proofs.RankingLemmas.{ranks_compare}
use Rattle.q_keys.proofs.laws.codes_compare_as_keys.Goals as goal

pub returns : goal.returns
returns c = λ rows i j d i_in j_in. ranks_compare key_cmp key_total rows i j d i_in j_in
