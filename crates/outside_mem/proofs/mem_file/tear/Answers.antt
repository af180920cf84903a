use Rattle.std.proofs.Common.{ap, length, ◌∙◌}
use Rattle.outside_mem.proofs.FileLemmas.{durable_on, doubt_on}
use Rattle.outside_mem.proofs.mem_file.tear.Goals as goal

pub loop-range-preserved : goal.loop-range-preserved
loop-range-preserved c =
    let whole = c.loop-range.auto.bytes ∙ ap length c.requires.whole in (
      λ j durable. durable_on j c.args.ranges.now c.loop-range.range-index _ c.loop-range.bytes c.tear_range.new.bytes c.args.kept.now c.args.byte c.loop-range-test.true c.tear_range.ensures.length whole (c.tear_range.ensures.others j) (λ itself. c.tear_range.ensures.kept itself j) (c.loop-range.invariant.0 j) durable,
      λ j less doubt. doubt_on j c.args.ranges.now c.loop-range.range-index _ c.loop-range.bytes c.tear_range.new.bytes c.args.kept.now c.args.byte c.loop-range-test.true c.tear_range.ensures.length whole (c.tear_range.ensures.others j) (λ apart. c.tear_range.ensures.torn apart j) (c.loop-range.invariant.1 j) less doubt,
    )
