use Rattle.ipc_frame.proofs.RunLemmas.{exact}
use Rattle.ipc_frame.proofs.laws.framer_is_exact.Goals as goal

pub returns : goal.returns
returns c = exact
