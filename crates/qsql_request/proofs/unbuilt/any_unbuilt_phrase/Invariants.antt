use Rattle.std.proofs.Common.{◌≡◌, map, drop}
use Rattle.std.specs.List.{list_any}
use Rattle.qsql_request.specs.Views.{form}
use Rattle.qsql_request.specs.Unbuilt.{is_unbuilt_phrase}
use Rattle.qsql_request.proofs.unbuilt.any_unbuilt_phrase.Given as goal

abbrev pub invariant-loop-phrase : goal.invariant-loop-phrase
invariant-loop-phrase l = list_any is_unbuilt_phrase (map form (drop l.phrase-index l.phrases)) ≡ list_any is_unbuilt_phrase (map form l.phrases)
