use Rattle.std.proofs.Common.{◌≡◌, take, map}
use Rattle.q_lanes.proofs.texts.texts_of.Given as goal

abbrev pub invariant-loop-i : goal.invariant-loop-i
invariant-loop-i g l = map (λ t. t.now) l.texts.items ≡ take l.i (g.L.TextList.texts l.symbols)
