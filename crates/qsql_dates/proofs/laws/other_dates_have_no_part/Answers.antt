use Rattle.qsql_dates.proofs.DateLemmas.{kept-dates}
use Rattle.qsql_dates.proofs.laws.other_dates_have_no_part.Goals as goal

pub returns : goal.returns
returns c phrases frame dates is = kept-dates phrases frame dates is
