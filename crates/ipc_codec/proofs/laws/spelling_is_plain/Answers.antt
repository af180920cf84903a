use Rattle.ipc_codec.proofs.PlainLemmas.{spelled-plain, spelled-fit}
use Rattle.ipc_codec.proofs.laws.spelling_is_plain.Goals as goal

pub returns : goal.returns
returns c order bytes t h = (spelled-plain h, spelled-fit h)
