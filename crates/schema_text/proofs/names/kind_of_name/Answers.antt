use Rattle.schema_text.proofs.KindNames.{kind_names-plain}
use Rattle.schema_text.proofs.names.kind_of_name.Goals as goal

pub returns-clause-lawful : goal.returns-clause-lawful
returns-clause-lawful c = rw c.look_up.ensures (kind_names-plain c.args.name.now)
