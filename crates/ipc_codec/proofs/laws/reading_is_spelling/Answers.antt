use Rattle.ipc_codec.proofs.LawLemmas.{reading_spells}
use Rattle.ipc_codec.proofs.laws.reading_is_spelling.Goals as goal

pub returns : goal.returns
returns c = reading_spells
