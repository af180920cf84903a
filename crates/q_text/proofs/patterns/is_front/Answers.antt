use Rattle.std.proofs.Common.{◌∙◌, sym, arith}
use Rattle.q_text.proofs.Fronts.{is_front-short, is_front-differs}
use Rattle.q_text.proofs.patterns.is_front.Goals as goal
use Rattle.q_text.proofs.patterns.is_front.Goals.{then-done-pattern-via-then-done-pattern, then-done-pattern-via-else-done-pattern+then-not-fits}

pub returns-then-done-pattern : goal.returns-then-done-pattern
returns-then-done-pattern c =
    elim c.then-done-pattern.branch [
      | then-done-pattern-via-then-done-pattern w ↦ sym (is_front-short c.args.pattern.now c.args.word.now c.loop-offset.done c.loop-offset.offset (omega arith) (omega arith)) ∙ c.loop-offset.invariant.value
      | then-done-pattern-via-else-done-pattern+then-not-fits w ↦ sym (is_front-differs c.args.pattern.now c.args.word.now c.loop-offset.done c.loop-offset.offset (omega arith) (omega arith) (cc)) ∙ c.loop-offset.invariant.value
    ]
