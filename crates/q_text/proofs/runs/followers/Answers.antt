use Rattle.std.proofs.Common.{◌-◌, ◌∙◌, sym, length, arith}
use Rattle.q_text.proofs.Followers.{counted-more, counted-none, counted-end}
use Rattle.q_text.proofs.runs.followers.Goals as goal

pub loop-count-preserved : goal.loop-count-preserved
loop-count-preserved c = record {
  value = rw (c.next_end-last.ensures.value) (counted-more c.loop-count.count (length c.args.text.now) c.args.form c.args.text.now c.loop-count.last (omega arith) (cc)) ∙ c.loop-count.invariant.value;
  forward = omega arith;
  within = omega arith;
  bound = omega arith;
}

pub returns-else-goes_on_with-clause-value : goal.returns-else-goes_on_with-clause-value
returns-else-goes_on_with-clause-value c =
    sym (counted-none c.loop-count.count (length c.args.text.now - c.loop-count.count) c.args.form c.args.text.now c.loop-count.last (cc)) ∙ c.loop-count.invariant.value

pub returns-after-loop-count-clause-value : goal.returns-after-loop-count-clause-value
returns-after-loop-count-clause-value c =
    sym (counted-end c.loop-count.count (length c.args.text.now - c.loop-count.count) c.args.form c.args.text.now c.loop-count.last (omega arith)) ∙ c.loop-count.invariant.value
