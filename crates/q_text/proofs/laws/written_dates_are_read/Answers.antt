use Rattle.q_text.proofs.DateLaw.{written-read}
use Rattle.q_text.proofs.laws.written_dates_are_read.Goals as goal

pub returns : goal.returns
returns c = written-read
