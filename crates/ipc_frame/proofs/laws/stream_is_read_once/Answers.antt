use Rattle.ipc_frame.proofs.UniqueLemmas.{read_once}
use Rattle.ipc_frame.proofs.laws.stream_is_read_once.Goals as goal

pub returns : goal.returns
returns c = read_once
