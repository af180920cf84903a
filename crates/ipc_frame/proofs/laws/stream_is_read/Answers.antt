use Rattle.ipc_frame.proofs.ReadLemmas.{read}
use Rattle.ipc_frame.proofs.laws.stream_is_read.Goals as goal

pub returns : goal.returns
returns c = read
