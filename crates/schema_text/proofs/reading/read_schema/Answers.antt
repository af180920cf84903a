use Rattle.schema_text.proofs.Texts.{gives-ok, gives-err, gives-only}
use Rattle.schema_text.proofs.reading.read_schema.Goals as goal

pub returns-clause-ok : goal.returns-clause-ok
returns-clause-ok c = gives-ok c.args.text.now c.read_text.result c.read_text.ensures

pub returns-clause-refused : goal.returns-clause-refused
returns-clause-refused c = gives-err c.args.text.now c.read_text.result c.read_text.ensures

pub returns-clause-exact : goal.returns-clause-exact
returns-clause-exact c = gives-only c.args.text.now c.read_text.result c.read_text.ensures
