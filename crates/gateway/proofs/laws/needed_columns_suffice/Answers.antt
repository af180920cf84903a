use Rattle.gateway.proofs.NeedLemmas.{needed_suffice}
use Rattle.gateway.proofs.laws.needed_columns_suffice.Goals as goal

pub returns : goal.returns
returns c = needed_suffice
