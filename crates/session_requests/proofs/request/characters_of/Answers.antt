use Rattle.session_requests.proofs.RequestLemmas.{characters_are}
use Rattle.session_requests.proofs.request.characters_of.Goals as goal

pub returns-in-Character : goal.returns-in-Character
returns-in-Character c =
    characters_are c.in-Bytes.kind c.in-Bytes.bytes c.column.result.now c.as_slice.result.now c.args.vector.now c.column.ensures c.in-Bytes.is c.in-Character.is c.as_slice.ensures.value
