use Rattle.std.proofs.Common.{◌≡◌, ◌++◌, take, map}
use Rattle.q_groups.proofs.column.add_texts.Given as goal

abbrev pub invariant-loop-i : goal.invariant-loop-i
invariant-loop-i l = map (λ t. t.now) l.texts.items ≡ map (λ t. t.now) l.fn.texts.items ++ take l.i l.symbols
