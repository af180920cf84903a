use Rattle.std.proofs.Common.{◌≤◌, All, length, take}
use Rattle.q_values.specs.Tree.{Tree, trees}
use Rattle.publications.specs.Notice.{notice}
use Rattle.publications.proofs.sending.total_length.Given as goal

abbrev pub invariant-loop-i : goal.invariant-loop-i
invariant-loop-i l = All (λ (t : Tree). length (notice t) ≤ 4294967295) (take l.i (trees l.values))
