use Rattle.qsql_parse.proofs.Once.{one-verdict}
use Rattle.qsql_parse.proofs.laws.texts_have_one_verdict.Goals as goal

pub returns : goal.returns
returns c = one-verdict
