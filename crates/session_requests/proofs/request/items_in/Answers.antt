use Rattle.std.proofs.Common.{refl}
use Rattle.session_requests.proofs.RequestLemmas.{list_of-items_of, tree-list}
use Rattle.session_requests.proofs.request.items_in.Goals as goal

pub returns-in-List : goal.returns-in-List
returns-in-List c = rw (c.in-List.is, tree-list c.in-List.items, list_of-items_of) refl
