use Rattle.std.proofs.Common.{◌≡◌, drop, map}
use Rattle.std.specs.List.{list_all}
use Rattle.qsql_request.specs.Views.{form}
use Rattle.qsql_request.specs.Forms.{Form}
use Rattle.qsql_values.specs.Kinds.{kind_in, column_kind}
use Rattle.qsql_eval.specs.Judgement.{is_boolean}
use Rattle.qsql_eval.proofs.checking.are_phrases.Given as goal

abbrev pub invariant-loop-phrase : goal.invariant-loop-phrase
invariant-loop-phrase l = list_all (λ (p : Form). is_boolean (kind_in (column_kind l.table) p)) (map form (drop l.phrase-index l.phrases)) ≡ list_all (λ (p : Form). is_boolean (kind_in (column_kind l.table) p)) (map form l.phrases)
