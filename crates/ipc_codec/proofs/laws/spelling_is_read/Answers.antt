use Rattle.ipc_codec.proofs.LawLemmas.{spelling_reads}
use Rattle.ipc_codec.proofs.laws.spelling_is_read.Goals as goal

pub returns : goal.returns
returns c = spelling_reads
