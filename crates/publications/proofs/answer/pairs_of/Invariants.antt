use Rattle.std.proofs.Common.{◌≡◌, map, take}
use Rattle.q_values.specs.Tree.{trees}
use Rattle.publications.specs.Answer.{pair_tree}
use Rattle.publications.proofs.answer.pairs_of.Given as goal

abbrev pub invariant-loop-i : goal.invariant-loop-i
invariant-loop-i l = trees l.pairs ≡ map pair_tree (take l.i l.schema)
