use Rattle.std.proofs.Common.{◌<◌, ℕ, get_or}
use Rattle.q_groups_cases.proofs.grouped.are_below.Given as goal

abbrev pub invariant-loop-code : goal.invariant-loop-code
invariant-loop-code l = (k : ℕ) → k < l.code-index → get_or l.codes k 0 < l.groups
