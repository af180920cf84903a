use Rattle.std.proofs.Common.{◌≡◌, take}
use Rattle.std.specs.List.{flat_map}
use Rattle.q_values.specs.Tree.{trees}
use Rattle.publications.specs.Notice.{notice}
use Rattle.publications.proofs.sending.joined.Given as goal

abbrev pub invariant-loop-i : goal.invariant-loop-i
invariant-loop-i l = l.bytes.items ≡ flat_map notice (take l.i (trees l.values))
