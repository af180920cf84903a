use Rattle.std.proofs.Common.{◌≡◌, map, take}
use Rattle.q_values.specs.declared.atom.Atom.TheVariants as a
use Rattle.gateway.specs.TableRows.{numbers_on}
use Rattle.gateway.proofs.columns.number_column.Given as goal

abbrev pub invariant-loop-k : goal.invariant-loop-k
invariant-loop-k l = map (λ x. a.Long x) l.numbers.items ≡ (numbers_on (take l.k-index l.dates) l.snapshot.frame.first l.snapshot.entries l.index).atoms
