use Rattle.std.proofs.Common.{arith, ◌∙◌}
use Rattle.q_text.proofs.Symbolic.{in_symbol-back, in_symbol-stop}
use Rattle.q_text.proofs.words.ends_symbol.Goals as goal
use Rattle.q_text.proofs.words.ends_symbol.Goals.{then-loop-offset-test+else-is_symbol, else-loop-offset-test}

pub loop-offset-preserved : goal.loop-offset-preserved
loop-offset-preserved c = record {
  value = in_symbol-back c.args.text.now c.loop-offset.offset (omega arith) c.loop-offset.invariant.within (cc) ∙ c.loop-offset.invariant.value;
  within = omega arith;
}

pub returns-then-offset-gt0 : goal.returns-then-offset-gt0
returns-then-offset-gt0 c =
    elim c.loop-offset-test.branch [
      | then-loop-offset-test+else-is_symbol w ↦ in_symbol-stop c.args.text.now c.loop-offset.offset (omega arith) c.loop-offset.invariant.within (cc) ∙ c.loop-offset.invariant.value
      | else-loop-offset-test w ↦ absurd (omega arith)
    ]
