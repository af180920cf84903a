use Rattle.std.proofs.Common.{◌∙◌}
use Rattle.outside_mem.proofs.FileLemmas.{kept_on, each_on, none_on}
use Rattle.outside_mem.proofs.mem_file.put_kept.Goals as goal

pub loop-range-preserved : goal.loop-range-preserved
loop-range-preserved c =
    let i = c.loop-range.range-index in
    let old = c.loop-range.bytes in
    let new = c.put_if_kept.new.bytes in
    let kept = c.args.kept.now in
    let whole = c.loop-range.auto.bytes ∙ c.requires.size in (
      λ j less at. kept_on j c.args.ranges.now i _ old new kept 0 c.loop-range-test.true c.put_if_kept.ensures.length whole (c.put_if_kept.ensures.each j) (λ itself. c.put_if_kept.ensures.kept itself j) (c.loop-range.invariant.0 j) less at,
      λ j. each_on j c.args.bytes.now old new kept (c.loop-range.invariant.1 j) (c.put_if_kept.ensures.each j),
      λ all. let both = none_on c.args.ranges.now i _ c.loop-range-test.true all in c.put_if_kept.ensures.none both.1 ∙ c.loop-range.invariant.2 both.0,
    )
