use Rattle.q_keys.specs.Keys.{key_cmp}
use Rattle.q_keys.proofs.AscendingLemmas.{any_ascending}
use Rattle.q_keys.proofs.KeyLemmas.{key_total}
use Rattle.q_keys.proofs.laws.keys_are_those_of_rows.Goals as goal

pub returns : goal.returns
returns c = λ rows key. any_ascending key_cmp key_total key rows
