use Rattle.std.proofs.Common.{◌≡◌, length, map}
use Rattle.q_words.specs.Words.{beside_in}
use Rattle.q_words.proofs.lookup.look_up.Given as goal

abbrev pub invariant-loop-table : goal.invariant-loop-table
invariant-loop-table g l = beside_in (map (λ entry. (entry.0.now, entry.1)) l.table) l.text ≡ beside_in (map (λ entry. (entry.0.now, entry.1)) l.initial.table) l.text

abbrev pub decreases-loop-table : goal.decreases-loop-table
decreases-loop-table g l = length l.table
