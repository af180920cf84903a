use Rattle.std.proofs.Common.{◌≡◌, ◌-◌, length, take, flat_map}
use Rattle.q_groups.proofs.column.short_pieces.Given as goal

abbrev pub invariant-loop-part : goal.invariant-loop-part
invariant-loop-part l = record {
  items : flat_map (λ piece. piece.now) l.pieces.items ≡ take l.rows (flat_map (λ part. part.now) (take l.part-index l.parts));
  left : l.left ≡ l.rows - length (flat_map (λ part. part.now) (take l.part-index l.parts));
}
