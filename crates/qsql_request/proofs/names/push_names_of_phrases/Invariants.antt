use Rattle.std.proofs.Common.{◌≡◌, ◌++◌, map, take}
use Rattle.qsql_request.specs.Views.{form}
use Rattle.qsql_request.specs.Names.{names_in_phrases}
use Rattle.qsql_request.proofs.names.push_names_of_phrases.Given as goal

abbrev pub invariant-loop-phrase : goal.invariant-loop-phrase
invariant-loop-phrase l = map (λ n. n.now) l.names.items ≡ map (λ n. n.now) l.initial.names.items ++ names_in_phrases (map form (take l.phrase-index l.phrases))
