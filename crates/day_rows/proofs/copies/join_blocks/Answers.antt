use Rattle.std.proofs.Common.{arith, take, flat_map}
use Rattle.std.proofs.lemmas.List.{length-append}
use Rattle.day_rows.specs.Joined.{joined}
use Rattle.day_rows.proofs.BlockLemmas.{joined_more}
use Rattle.day_rows.proofs.Lists.{part_more}
use Rattle.day_rows.proofs.copies.join_blocks.Goals as goal

pub loop-block-preserved : goal.loop-block-preserved
loop-block-preserved c =
    let blocks = c.args.blocks.now in
    let i = c.loop-block.block-index in
    let J = joined c.args.table c.args.column (flat_map (λ block. block.now) (take i blocks)) in
    let A = joined c.args.table c.args.column c.block-item.result.now in
    let more = joined_more (λ block. block.now) c.args.table c.args.column blocks i c.block-item.result c.loop-block-test.true c.block-item.is in
    rw (more) (record {
      found = part_more c.args.kind c.args.n c.args.from c.loop-block.skip J A c.loop-block.found c.append_block.new.found c.loop-block.invariant.found c.loop-block.invariant.skip c.in_ok-skip.ensures.ok;
      skip = omega (arith, length-append J A, c.in_ok-skip.ensures.skip, c.loop-block.invariant.skip);
    })
