use Rattle.std.proofs.Common.{arith}
use Rattle.q_text.specs.Numbers.{bytes_of}
use Rattle.std.proofs.Common.{◌++◌, drop}
use Rattle.q_text.proofs.BytesOf.{bytes_of-one}
use Rattle.q_text.proofs.numbers.push_bytes.Goals as goal

pub returns-else-word-offset-ge2 : goal.returns-else-word-offset-ge2
returns-else-word-offset-ge2 c = bytes_of-one c.loop-offset.numbers.items (c.args.numbers.now.items ++ bytes_of (drop c.args.from c.args.word.now)) c.args.word.now c.loop-offset.offset (omega arith) (omega arith) c.loop-offset.invariant
