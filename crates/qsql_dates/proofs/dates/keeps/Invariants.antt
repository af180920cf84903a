use Rattle.std.proofs.Common.{◌≡◌, drop, map}
use Rattle.qsql_request.specs.Views.{form}
use Rattle.qsql_dates.specs.Dates
use Rattle.qsql_dates.proofs.dates.keeps.Given as goal

abbrev pub invariant-loop-phrase : goal.invariant-loop-phrase
invariant-loop-phrase l = Dates.keeps (map form (drop l.phrase-index l.phrases)) l.date ≡ Dates.keeps (map form l.phrases) l.date
