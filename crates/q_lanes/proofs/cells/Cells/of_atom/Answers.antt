use Rattle.q_values.specs.declared.atom.Atom.TheVariants as a
use Rattle.q_lanes.proofs.SideLemmas.{map-replicate}
use Rattle.q_lanes.proofs.cells.Cells.of_atom.Goals as goal

pub returns-in-Symbol-clause-atoms : goal.returns-in-Symbol-clause-atoms
returns-in-Symbol-clause-atoms c n = rw c.in-Symbol.is (map-replicate (λ x. a.Symbol x) n c.in-Symbol.symbol)
