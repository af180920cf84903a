use Rattle.std.proofs.Common.{◌<◌, ◌≤◌, length, get_or, List, ap, subst, sym, arith}
use Rattle.std.specs.List.{AllByRecursion}
use Rattle.outside_api.specs.Disk.{in_state, after_fault}
use Rattle.outside_api.specs.declared.range.WrittenRange.{WrittenRange}
use Rattle.outside_api.specs.declared.range.RangeState.{RangeState}
use Rattle.outside_api.specs.declared.range.RangeState.TheVariants.{Unsynced}
use Rattle.outside_mem.specs.Ranges.{EndsEarly}
use Rattle.outside_mem.proofs.FileLemmas.{all_map, mark_on, mark_all}
use Rattle.outside_mem.proofs.mem_file.lose_all.Goals as goal

pub loop-range-preserved : goal.loop-range-preserved
loop-range-preserved c =
    let d : WrittenRange = record { at = 0; size = 0; state = Unsynced } in
    let less : c.loop-range.range-index < length c.loop-range.ranges = omega (arith, c.loop-range-test.true, c.loop-range.invariant.2) in
    mark_on (in_state after_fault) c.args.ranges.now c.loop-range.ranges c.loop-range.range-index d _ less c.loop-range.invariant.2 c.loop-range.invariant.0 c.loop-range.invariant.1
    (ap (λ (s : RangeState). record { at = (get_or c.loop-range.ranges c.loop-range.range-index d).at; size = (get_or c.loop-range.ranges c.loop-range.range-index d).size; state = s }) c.state_lost-range.ensures)

pub returns-clause-ends : goal.returns-clause-ends
returns-clause-ends c all =
    let le : length c.loop-range.ranges ≤ c.loop-range.range-index = omega (arith, c.loop-range-test.false, c.loop-range.invariant.2) in
    subst (λ (l : List WrittenRange). AllByRecursion EndsEarly l) (sym (mark_all (in_state after_fault) c.args.ranges.now c.loop-range.ranges c.loop-range.range-index le c.loop-range.invariant.2 c.loop-range.invariant.0))
    (all_map EndsEarly (in_state after_fault) c.args.ranges.now (λ range early. early) all)
