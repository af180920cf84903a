use Rattle.std.proofs.Common.{◌≡◌, ◌==◌, true, false, arith, length}
use Rattle.q_matching.proofs.LikeLemmas.{row_any, row_byte}
use Rattle.q_matching.proofs.like.step.Goals as goal

pub returns-then-p-eq-ANY_BYTES : goal.returns-then-p-eq-ANY_BYTES
returns-then-p-eq-ANY_BYTES c =
    let star : (c.args.p == 42) ≡ true = grind arith in
    let size : length c.step_any.new.row ≡ length c.args.row.now = omega arith in
    λ pattern before. row_any c.args.p pattern c.args.text.now c.args.row.now c.step_any.new.row star size before c.step_any.ensures.places c.step_any.ensures.end

pub returns-else-p-eq-ANY_BYTES : goal.returns-else-p-eq-ANY_BYTES
returns-else-p-eq-ANY_BYTES c =
    let other : (c.args.p == 42) ≡ false = grind arith in
    let size : length c.step_byte.new.row ≡ length c.args.row.now = omega arith in
    λ pattern before. row_byte c.args.p pattern c.args.text.now c.args.row.now c.step_byte.new.row other size before c.step_byte.ensures.places c.step_byte.ensures.end
