use Rattle.std.proofs.Common.{◌≡◌, ◌≤◌, ◌-◌, ◌++◌, length, drop}
use Rattle.q_text.specs.Words.{span}
use Rattle.q_text.specs.Symbols.{names}
use Rattle.q_text.specs.declared.words.Class.TheVariants as c
use Rattle.q_text.proofs.symbols.push_names.Given as goal

abbrev pub invariant-loop-end : goal.invariant-loop-end
invariant-loop-end l = record {
  value : l.found ++ names (drop l.offset l.text) ≡ l.fn.found ++ names (drop l.at l.text);
  stopped : span c.Symbol (drop l.offset l.text) ≡ 0;
  within : l.offset ≤ length l.text;
}

abbrev pub decreases-loop-end : goal.decreases-loop-end
decreases-loop-end l = length l.text - l.offset
