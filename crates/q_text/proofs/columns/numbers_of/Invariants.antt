use Rattle.std.proofs.Common.{◌≡◌, ◌≤◌, ◌-◌, Some, length}
use Rattle.q_text.specs.Numbers.{joined, numbers_from}
use Rattle.q_text.proofs.columns.numbers_of.Given as goal

abbrev pub invariant-loop-done : goal.invariant-loop-done
invariant-loop-done l = record {
  value : joined (Some l.numbers.items) (numbers_from (l.run.count - l.done) l.form l.run.kind l.text l.offset) ≡ numbers_from l.run.count l.form l.run.kind l.text l.at;
  within : l.offset ≤ length l.text;
  few : l.done ≤ l.run.count;
}

abbrev pub decreases-loop-done : goal.decreases-loop-done
decreases-loop-done l = l.run.count - l.done
