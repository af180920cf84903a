use Rattle.std.proofs.lemmas.Bool.{ne_eqb}
use Rattle.q_text.proofs.Openings.{starts-word}
use Rattle.std.proofs.Common.{get_or}
use Rattle.q_text.proofs.literal.literal_from.Goals as goal

pub numbers_at-requires-clause-begins : goal.numbers_at-requires-clause-begins
numbers_at-requires-clause-begins c =
    starts-word c.args.text.now c.args.at c.requires.starts (ne_eqb (get_or c.args.text.now c.args.at 0) 96 c.if-text-at-eq96.false) (ne_eqb (get_or c.args.text.now c.args.at 0) 34 c.if-text-at-eq34.false)
