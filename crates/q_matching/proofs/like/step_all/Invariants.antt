use Rattle.std.proofs.Common.{◌-◌, length, drop}
use Rattle.q_verbs.specs.Like.{matches, IsRow}
use Rattle.q_matching.proofs.like.step_all.Given as goal

abbrev pub invariant-loop-j : goal.invariant-loop-j
invariant-loop-j l = IsRow (matches (drop (length l.pattern - l.j) l.pattern)) l.text l.row
