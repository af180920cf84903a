use Rattle.std.proofs.Common.{sym}
use Rattle.q_matching.proofs.LikeLemmas.{lone_star}
use Rattle.q_matching.proofs.like.is_match_of_rest.Goals as goal

pub returns-then-pattern-eq-ANY_BYTES : goal.returns-then-pattern-eq-ANY_BYTES
returns-then-pattern-eq-ANY_BYTES c = sym (lone_star c.args.pattern.now c.args.text.now c.if-pattern-eq1.true c.if-pattern-eq-ANY_BYTES.true)
