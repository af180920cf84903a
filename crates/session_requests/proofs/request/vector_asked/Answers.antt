use Rattle.std.proofs.Common.{◌∙◌}
use Rattle.session_requests.proofs.RequestLemmas.{text_is}
use Rattle.session_requests.proofs.request.vector_asked.Goals as goal

pub returns-in_ok-text-in-Character : goal.returns-in_ok-text-in-Character
returns-in_ok-text-in-Character c = text_is c.in-Bytes.kind c.in-Bytes.bytes c.column.result.now c.in_ok-text-in-Character.text c.args.vector.now c.column.ensures c.in-Bytes.is c.in-Character.is (c.in_ok-text-in-Character.ensures ∙ c.in_ok-from_slice-in-Character.ensures.items ∙ c.deref.ensures.value)
