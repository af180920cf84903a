use Rattle.std.proofs.Common.{length, ◌-◌, ◌≡◌, ◌≤◌}
use Rattle.q_text.specs.Runs.{followers}
use Rattle.q_text.proofs.Followers.{counted}
use Rattle.q_text.proofs.runs.followers.Given as goal

abbrev pub invariant-loop-count : goal.invariant-loop-count
invariant-loop-count l = record {
  value : counted l.count (followers (length l.text - l.count) l.form l.text l.last) ≡ followers (length l.text) l.form l.text l.fn.end;
  forward : l.fn.end ≤ l.last;
  within : l.last ≤ length l.text;
  bound : l.count ≤ length l.text;
}

abbrev pub decreases-loop-count : goal.decreases-loop-count
decreases-loop-count l = length l.text - l.count
