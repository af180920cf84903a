use Rattle.std.proofs.Common.{◌≡◌, take, drop}
use Rattle.q_unary.specs.Extremes.{extreme}
use Rattle.q_unary.proofs.picks.picked_of.Given as goal

abbrev pub invariant-loop-i : goal.invariant-loop-i
invariant-loop-i g l = record {
  best : g.P.Pick.held l.best ≡ extreme g.P.Pick.wanted g.P.Pick.number g.P.Pick.end (take l.i (g.I.Items.list l.items));
  other : g.P.Pick.held l.other ≡ extreme g.P.Pick.wanted g.P.Pick.number g.P.Pick.end (take l.i (drop l.half (g.I.Items.list l.items)));
}
