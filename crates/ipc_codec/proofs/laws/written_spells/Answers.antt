use Rattle.ipc_codec.proofs.WrittenLemmas.{written_spelled}
use Rattle.ipc_codec.proofs.laws.written_spells.Goals as goal

pub returns : goal.returns
returns c = written_spelled
