use Rattle.std.proofs.Common.{arith, rules}
use Rattle.q_matching.proofs.BlockLemmas.{grown}
use Rattle.q_matching.proofs.flags.flags_of.Goals as goal

pub loop-done-preserved : goal.loop-done-preserved
loop-done-preserved g c = record { items = search (rules, grown); within = omega (arith, c.loop-done-test.true, c.loop-done.invariant.within) }
