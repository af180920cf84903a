use Rattle.std.proofs.Common.{to_z, of_z, w32, rules, arith}
use Rattle.q_binary.specs.Computed.{int_multiple}
use Rattle.q_binary.proofs.IntMultipleLemmas.{grown}
use Rattle.q_binary.proofs.int_multiples.multiples_of_ints.Goals as goal

pub loop-done-preserved : goal.loop-done-preserved
loop-done-preserved c =
    let f = int_multiple (to_z w32 (of_z w32 c.args.width)) in
    record { items = search (rules, grown); within = omega (arith, c.min.ensures) }
