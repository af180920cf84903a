use Rattle.std.proofs.Common.{◌≡◌, ◌-◌, take, drop, length}
use Rattle.std.specs.List.{flat_map}
use Rattle.day_rows.specs.Joined.{joined}
use Rattle.day_rows.proofs.copies.join_blocks.Given as goal

abbrev pub invariant-loop-block : goal.invariant-loop-block
invariant-loop-block l = record {
  found : l.found ≡ record { kind = l.fn.kind; atoms = take l.n (drop l.from (joined l.table l.column (flat_map (λ block. block.now) (take l.block-index l.blocks)))) };
  skip : l.skip ≡ l.from - length (joined l.table l.column (flat_map (λ block. block.now) (take l.block-index l.blocks)));
}
