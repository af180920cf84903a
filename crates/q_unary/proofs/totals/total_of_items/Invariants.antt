use Rattle.std.proofs.Common.{◌≡◌, take, drop, map}
use Rattle.std.specs.Int.{w64, int_wrap}
use Rattle.q_verbs.specs.Aggregates.{total}
use Rattle.q_unary.proofs.totals.total_of_items.Given as goal

abbrev pub invariant-loop-i : goal.invariant-loop-i
invariant-loop-i g l = record {
  sum : l.sum ≡ int_wrap w64 (total (map g.T.Number.number (take l.i l.items)));
  other : l.other ≡ int_wrap w64 (total (map g.T.Number.number (take l.i (drop l.half l.items))));
}
