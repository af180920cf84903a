use Rattle.std.proofs.Common.{◌≡◌, [], take, map}
use Rattle.q_grouped.specs.Steps.{item_or}
use Rattle.q_grouped.proofs.rows.symbols_at.Given as goal

abbrev pub invariant-loop-row : goal.invariant-loop-row
invariant-loop-row l = l.found ≡ map (item_or [] l.symbols) (take l.row-index l.rows)
