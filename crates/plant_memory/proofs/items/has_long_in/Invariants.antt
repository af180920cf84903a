use Rattle.std.proofs.Common.{◌≡◌, take, map, false}
use Rattle.std.specs.List.{list_any}
use Rattle.q_values.specs.declared.atom.Atom.TheVariants as a
use Rattle.plant_memory.specs.Items.{is_long_symbol}
use Rattle.plant_memory.proofs.items.has_long_in.Given as goal

abbrev pub invariant-loop-i : goal.invariant-loop-i
invariant-loop-i l = list_any (is_long_symbol l.limit) (take l.i (map (λ x. a.Symbol x) l.symbols)) ≡ false
