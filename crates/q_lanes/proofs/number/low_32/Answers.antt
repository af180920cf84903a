use Rattle.std.proofs.Common.{rules}
use Rattle.q_lanes.proofs.WrapLemmas.{low-32}
use Rattle.q_lanes.proofs.number.low_32.Goals as goal

pub returns : goal.returns
returns c = search (rules, low-32)
