use Rattle.std.proofs.Common.{◌≤◌, arith, ◌∙◌, length, ◌+◌}
use Rattle.q_text.proofs.Spelling.{spelled-step, spelled-end, spelled-out, spelled-stop}
use Rattle.q_text.proofs.numbers.spelled.Goals as goal

pub loop-offset-preserved : goal.loop-offset-preserved
loop-offset-preserved c =
    let less : c.loop-offset.offset + 1 ≤ length c.args.word.now = omega arith in
    record {
      value = spelled-step c.loop-offset.number 18446744073709551615 c.saturating_add-number.result c.args.word.now c.loop-offset.offset (omega arith) (cc) (omega arith) ∙ c.loop-offset.invariant.value;
      within = less;
      fits = omega arith;
    }

pub returns-else-is_digit : goal.returns-else-is_digit
returns-else-is_digit c =
    spelled-stop c.loop-offset.number 18446744073709551615 c.args.word.now c.loop-offset.offset (omega arith) (spelled-end c.loop-offset.number 18446744073709551615 c.args.word.now c.loop-offset.offset (omega arith) (cc)) ∙ c.loop-offset.invariant.value

pub returns-after-loop-offset : goal.returns-after-loop-offset
returns-after-loop-offset c =
    spelled-stop c.loop-offset.number 18446744073709551615 c.args.word.now c.loop-offset.offset (omega arith) (spelled-out c.loop-offset.number 18446744073709551615 c.args.word.now c.loop-offset.offset (omega arith)) ∙ c.loop-offset.invariant.value
