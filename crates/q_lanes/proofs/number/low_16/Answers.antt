use Rattle.std.proofs.Common.{rules}
use Rattle.q_lanes.proofs.WrapLemmas.{low-16}
use Rattle.q_lanes.proofs.number.low_16.Goals as goal

pub returns : goal.returns
returns c = search (rules, low-16)
