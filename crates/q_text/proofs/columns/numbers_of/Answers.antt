use Rattle.std.proofs.Common.{◌-◌, ◌∙◌, sym, arith, true, false}
use Rattle.q_text.proofs.Joins.{push-read, numbers_from-step, numbers_from-fault, numbers_from-end}
use Rattle.q_text.proofs.columns.numbers_of.Goals as goal

pub returns-then-not-branch : goal.returns-then-not-branch
returns-then-not-branch c =
    sym c.loop-done.invariant.value ∙ numbers_from-fault c.loop-done.numbers.items c.args.run.now.count c.loop-done.done c.args.form c.args.run.now.kind c.args.text.now c.loop-done.offset (omega arith) (push-read c.loop-done.numbers.items c.push_numbers.new.numbers.items c.args.form c.args.run.now.kind c.word_at-word.result.now _ c.in_ok-push_numbers.field-0 false c.word_at-word.ensures c.in_ok-push_numbers.ensures c.if-not-branch.true)

pub loop-done-preserved : goal.loop-done-preserved
loop-done-preserved c = record {
  value = rw (c.next_start-offset.ensures.value, c.word_end.ensures.value) (numbers_from-step c.loop-done.numbers.items c.push_numbers.new.numbers.items c.args.run.now.count c.loop-done.done c.args.form c.args.run.now.kind c.args.text.now c.loop-done.offset (omega arith) (push-read c.loop-done.numbers.items c.push_numbers.new.numbers.items c.args.form c.args.run.now.kind c.word_at-word.result.now _ c.in_ok-push_numbers.field-0 true c.word_at-word.ensures c.in_ok-push_numbers.ensures c.if-not-branch.false)) ∙ c.loop-done.invariant.value;
  within = omega arith;
  few = omega arith;
}

pub returns : goal.returns
returns c = sym c.loop-done.invariant.value ∙ numbers_from-end c.loop-done.numbers.items (c.args.run.now.count - c.loop-done.done) c.args.form c.args.run.now.kind c.args.text.now c.loop-done.offset (omega arith)
