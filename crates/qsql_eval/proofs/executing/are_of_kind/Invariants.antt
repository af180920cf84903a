use Rattle.std.proofs.Common.{◌≡◌, map, drop}
use Rattle.std.specs.List.{list_all}
use Rattle.q_values.specs.Tree.{tree}
use Rattle.qsql_eval.specs.Meaning.{is_atom_of}
use Rattle.qsql_eval.proofs.executing.are_of_kind.Given as goal

abbrev pub invariant-loop-value : goal.invariant-loop-value
invariant-loop-value l = list_all (is_atom_of l.kind) (map tree (drop l.value-index l.values)) ≡ list_all (is_atom_of l.kind) (map tree l.values)
