use Rattle.std.proofs.Common.{◌≡◌, ◌<◌, length, take, All}
use Rattle.std.specs.List.{list_any}
use Rattle.std.specs.HashSet.{contains}
use Rattle.q_values.specs.Lists.{gathered}
use Rattle.q_verbs.specs.Lists.{distinct}
use Rattle.q_unary.proofs.distinct.first_places.Given as goal

abbrev pub invariant-loop-i : goal.invariant-loop-i
invariant-loop-i g l = record {
  items : gathered l.items l.places.items ≡ distinct g.T.PartialEq.eq (take l.i l.items);
  within : All (λ p. p < length l.items) l.places.items;
  seen : (q : g.row.T.Denot) → contains g.T.PartialEq.eq l.seen q ≡ list_any (λ y. g.T.PartialEq.eq y q) (take l.i l.items);
}
