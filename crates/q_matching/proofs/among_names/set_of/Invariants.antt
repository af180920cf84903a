use Rattle.std.proofs.Common.{◌≡◌, take}
use Rattle.std.specs.List.{list_any}
use Rattle.std.specs.HashSet.{contains}
use Rattle.q_matching.proofs.among_names.set_of.Given as goal

abbrev pub invariant-loop-item : goal.invariant-loop-item
invariant-loop-item g l = (q : g.row.T.Denot) → contains g.T.PartialEq.eq l.set q ≡ list_any (g.T.PartialEq.eq q) (take l.item-index l.items)
