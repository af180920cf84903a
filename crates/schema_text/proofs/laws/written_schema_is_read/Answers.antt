use Rattle.schema_text.proofs.WrittenTables.{written-read}
use Rattle.schema_text.proofs.laws.written_schema_is_read.Goals as goal

pub returns : goal.returns
returns c = written-read
