use Rattle.qsql_parse.proofs.Complete.{one-request}
use Rattle.qsql_parse.proofs.laws.tokens_are_one_request.Goals as goal

pub returns : goal.returns
returns c = one-request
