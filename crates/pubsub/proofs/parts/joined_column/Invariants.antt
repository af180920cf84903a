use Rattle.std.proofs.Common.{◌≡◌, Some, take, slice_get}
use Rattle.std.specs.List.{flat_map}
use Rattle.pubsub.specs.Parts.{part_atoms}
use Rattle.pubsub.proofs.parts.joined_column.Given as goal

abbrev pub invariant-loop-part : goal.invariant-loop-part
invariant-loop-part l = record {
  kind : slice_get l.kinds l.column ≡ Some l.whole.kind;
  atoms : l.whole.atoms ≡ flat_map (part_atoms l.column) (take l.part-index l.parts);
}
