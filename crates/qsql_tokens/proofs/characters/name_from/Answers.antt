use Rattle.qsql_tokens.proofs.Names.{slice-no_nul}
use Rattle.qsql_tokens.proofs.characters.name_from.Goals as goal

pub returns-clause-no_nul : goal.returns-clause-no_nul
returns-clause-no_nul c = slice-no_nul c.args.text.now c.args.at c.name_len.result c.name_len.ensures.value
