use Rattle.ipc_frame.proofs.MessageLemmas.{message_spelled}
use Rattle.ipc_frame.proofs.laws.message_is_spelled.Goals as goal

pub returns : goal.returns
returns c = message_spelled
