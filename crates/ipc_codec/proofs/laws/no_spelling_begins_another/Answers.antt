use Rattle.ipc_codec.proofs.LawLemmas.{no_spelling_begins}
use Rattle.ipc_codec.proofs.laws.no_spelling_begins_another.Goals as goal

pub returns : goal.returns
returns c = no_spelling_begins
