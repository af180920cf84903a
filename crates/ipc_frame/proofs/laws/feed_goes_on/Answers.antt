use Rattle.ipc_frame.proofs.MessageLemmas.{goes_on}
use Rattle.ipc_frame.proofs.laws.feed_goes_on.Goals as goal

pub returns : goal.returns
returns c = goes_on
