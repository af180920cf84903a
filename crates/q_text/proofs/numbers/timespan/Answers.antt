use Rattle.std.proofs.Common.{arith}
use Rattle.std.proofs.lemmas.Int.{ints}
use Rattle.q_text.proofs.Ranges.{timespan-read}
use Rattle.q_text.proofs.numbers.timespan.Goals as goal

pub returns : goal.returns
returns c = timespan-read c.args.word.now c.spelled.result c.clock_after_days-clock.result _ c.in_range.result c.spelled.ensures c.clock_after_days-clock.ensures.value (omega (arith, ints)) c.in_range.ensures
