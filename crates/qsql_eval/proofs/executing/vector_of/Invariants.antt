use Rattle.std.proofs.Common.{◌≡◌, map, take}
use Rattle.std.specs.List.{flat_map}
use Rattle.q_values.specs.Tree.{Tree, tree}
use Rattle.qsql_values.specs.Values.{items_in}
use Rattle.qsql_eval.proofs.executing.vector_of.Given as goal

abbrev pub invariant-loop-value : goal.invariant-loop-value
invariant-loop-value l = l.atoms ≡ record { kind = l.fn.kind; atoms = flat_map (λ (t : Tree). (items_in t).atoms) (map tree (take l.value-index l.values)) }
