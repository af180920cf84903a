use Rattle.std.proofs.Common.{◌≡◌, map, take}
use Rattle.qsql_parse.specs.Grammar.{symbol_of}
use Rattle.qsql_parse.proofs.names.names_of_vector.Given as goal

abbrev pub invariant-loop-i : goal.invariant-loop-i
invariant-loop-i l = l.names ≡ map symbol_of (take l.i l.vector.atoms)
