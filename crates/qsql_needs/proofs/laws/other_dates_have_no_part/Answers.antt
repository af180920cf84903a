use Rattle.std.proofs.Common.{ap}
use Rattle.qsql_dates.proofs.DateLemmas.{kept-dates}
use Rattle.qsql_eval.specs.Meaning.{value_over_kept}
use Rattle.qsql_needs.proofs.laws.other_dates_have_no_part.Goals as goal

pub returns : goal.returns
returns c all q frame dates is = ap (value_over_kept all q) (kept-dates q.phrases frame dates is)
