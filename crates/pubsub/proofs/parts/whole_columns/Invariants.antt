use Rattle.std.proofs.Common.{◌≡◌, take}
use Rattle.std.specs.List.{flat_map}
use Rattle.pubsub.specs.Parts.{part_lines}
use Rattle.pubsub.specs.Told.{columns_from}
use Rattle.pubsub.proofs.parts.whole_columns.Given as goal

abbrev pub invariant-loop-i : goal.invariant-loop-i
invariant-loop-i l = l.columns ≡ columns_from 0 (take l.i l.kinds) (flat_map part_lines l.parts)
