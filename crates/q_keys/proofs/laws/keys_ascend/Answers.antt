use Rattle.q_keys.specs.Keys.{key_cmp, keys_in}
use Rattle.q_keys.proofs.AscendingLemmas.{rises_at, rises_ascending}
use Rattle.q_keys.proofs.KeyLemmas.{key_total}
use Rattle.q_keys.proofs.laws.keys_ascend.Goals as goal

pub returns : goal.returns
returns c = λ rows i j d lower low. rises_at key_cmp key_total (keys_in rows) i j d (rises_ascending key_cmp key_total rows) lower low
