use Rattle.qsql_parse.proofs.Verdicts.{gives-only}
use Rattle.qsql_parse.proofs.parsing.parse.Goals as goal

pub returns-clause-exact : goal.returns-clause-exact
returns-clause-exact c = gives-only c.args.text.now c.read_built.result c.read_built.ensures.ok c.read_built.ensures.refused
