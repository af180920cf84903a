use Rattle.std.proofs.Common.{◌≡◌, ◌++◌, take, map}
use Rattle.day_rows.proofs.blocks.lend_blocks.Given as goal

abbrev pub invariant-loop-block : goal.invariant-loop-block
invariant-loop-block l = map (λ block. block.now) l.lent.items ≡ map (λ block. block.now) l.fn.lent.items ++ take l.block-index l.blocks
