use Rattle.qsql_laws.proofs.ShapeLemmas.{built_request}
use Rattle.qsql_laws.proofs.built_is_well_shaped.Goals as goal

pub returns : goal.returns
returns c = built_request
