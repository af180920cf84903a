use Rattle.std.proofs.Common.{take}
use Rattle.std.specs.List.{flat_map}
use Rattle.indexmap.specs.IndexSet.{IsUnique}
use Rattle.q_groups.specs.Groups.{IsNumbered}
use Rattle.q_groups.proofs.number.Numbered.of.Given as goal

abbrev pub invariant-loop-piece : goal.invariant-loop-piece
invariant-loop-piece g l = record {
  unique : IsUnique g.T.PartialEq.eq l.found.values;
  numbered : IsNumbered g.T.PartialEq.eq (flat_map (λ piece. piece.now) (take l.piece-index l.pieces)) l.found.values.keys l.found.codes.items l.found.firsts.items;
}
