use Rattle.std.proofs.Common.{◌≡◌, map, take}
use Rattle.q_values.specs.Tree.{tree, atom}
use Rattle.session_requests.proofs.request.atoms_in.Given as goal

abbrev pub invariant-loop-i : goal.invariant-loop-i
invariant-loop-i l = map tree l.atoms.items ≡ map atom (take l.i l.vector.atoms)
