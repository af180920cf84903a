use Rattle.std.proofs.Common.{◌≡◌, ◌≤◌, length, map, take, vec_len, vec_capacity}
use Rattle.q_values.specs.declared.atom.Atom.TheVariants as a
use Rattle.q_verbs.specs.Numbers.{worth}
use Rattle.q_verbs.specs.Tests.{lies_within}
use Rattle.q_matching.proofs.within.within_list.Given as goal

abbrev pub invariant-loop-i : goal.invariant-loop-i
invariant-loop-i g l = record {
  items : l.values.items ≡ map (λ s. lies_within (worth (a.Symbol l.low)) (worth (a.Symbol l.high)) (worth (a.Symbol s))) (take l.i (g.L.TextList.texts l.items));
  count : vec_len l.values ≡ l.i;
  room : length (g.L.TextList.texts l.items) ≤ vec_capacity l.values;
}
