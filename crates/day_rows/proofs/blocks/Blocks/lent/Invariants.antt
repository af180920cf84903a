use Rattle.std.proofs.Common.{◌≡◌, take, map}
use Rattle.std.specs.List.{flat_map}
use Rattle.day_rows.proofs.blocks.Blocks.lent.Given as goal

abbrev pub invariant-loop-piece : goal.invariant-loop-piece
invariant-loop-piece l = map (λ block. block.now) l.lent.items ≡ flat_map (λ piece. piece) (take l.piece-index l.self-inside.pieces.items)
