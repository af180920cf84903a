use Rattle.std.proofs.Common.{◌≡◌, length, take, map}
use Rattle.q_matching.proofs.flags.sixteen.Given as goal

abbrev pub invariant-loop-k : goal.invariant-loop-k
invariant-loop-k g l = record {
  size : length l.block ≡ 16;
  done : take l.k l.block ≡ map (g.P.Rule.value l.rule) (take l.k l.items);
}
