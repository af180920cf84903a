use Rattle.std.proofs.Common.{rules}
use Rattle.q_lanes.proofs.WrapLemmas.{low-32}
use Rattle.q_grouped.proofs.totals.low_32.Goals as goal

pub returns : goal.returns
returns c = search (rules, low-32)
